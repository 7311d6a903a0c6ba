-- Laws of the functions that measure: the lines of a set by how many members it has, sums over rows and sessions, and the whole state.
-- Assumes nothing.
use mathlib.Core.Path.{◌≡◌, refl, sym, ap, ◌∙◌}
use mathlib.Core.Bool.{Bool, true, false, cond, not, ◌&&◌}
use mathlib.Core.List.{List, [], ◌∷◌, ◌++◌, map, map-append}
use Prim.Native.Nat.{ℕ, zero, suc, ◌+◌, ◌-◌, ◌*◌, ◌/◌, ◌%◌, ◌^◌, ◌≤◌, ◌<◌}
use native.Mathlib.Nat.{add-mul, mul-le-mul, le_refl}
use native.Mathlib.Numerals.{add-one}
use native.Mathlib.Omega.{arith}
use lib.ListN.{length, get_or, take, length-append}
use lib.Seq.{take-suc}
use lib.Dec.{ltb, eqb}
use lib.IntN.{ℤ, pos, negsuc}
use mir.Syntax.{w32}
use mir.Val.{SFits}
use Rattle.sets.specs.Sets.{member, intersection, all, count, one_if}
use Rattle.sets.proofs.Bounded.{of-all}
use Rattle.sets.proofs.Booleans.{left-true}
use Rattle.sets.proofs.Counting.{count_same, count-le, count-mono}
use Rattle.sets.proofs.Members.{member-intersection}
use Rattle.places.specs.declared.Point.{Point}
use Rattle.rules.specs.Families.{word_at}
use Rattle.rules.specs.declared.sessions.Session.{Session}
use Rattle.loans.specs.declared.Loan.{Loan}
use Rattle.enforcement.specs.States.{loans_of}
use Rattle.enforcement.specs.declared.states.State.{State}
use Rattle.forms.specs.Numbers.{digits_of, signed_of, signed_code}
use Rattle.forms.specs.Writing.{last_place, capped}
use Rattle.forms.proofs.Puts.{capped_small, digits-length}
use Rattle.state_text.specs.Entries.{line_text}
use Rattle.state_text.specs.Saving.{over, only, loan_line, place_line, place_lines, lines_text, saved_text}
use Rattle.state_text.specs.Parts.{member_lines, set_lines, row_lines, history_lines, open_lines, session_parts, session_parts_at, width, Measured, SetMeasured, RowsMeasured}
use Rattle.state_text.specs.declared.entries.Entry.{Entry}
use Rattle.state_text.specs.declared.entries.Entry.TheVariants.{Now, Assigned, Granted, Open, Place, Active, Did, PlaceWithError}
use Rattle.state_text.proofs.Rows.{over_zero, over-suc}
use Rattle.state_text.proofs.JoinedLines.{text-append, text-none, text-one}
use Rattle.state_text.proofs.LineSizes.{now-bytes, loan-bytes, open-bytes, place-bytes, error-bytes, assigned-size, granted-size, active-size, did-size}
use Rattle.state_text.proofs.Writes.{low-set, saved-parts}

-- ---- one line, or none

pub only-bytes : (b : Bool) (e : Entry) {n : ℕ} → length (line_text e) ≡ n → length (lines_text (only b e)) ≡ cond b n 0
only-bytes true e h = ap length (text-one e) ∙ h
only-bytes false e h = ap length text-none

pub over-bytes : (n : ℕ) (f : ℕ → List Entry) → length (lines_text (over (suc n) f)) ≡ length (lines_text (over n f)) + length (lines_text (f n))
over-bytes n f = rw (over-suc n f, text-append (over n f) (f n)) (length-append (lines_text (over n f)) (lines_text (f n)))

pub none-bytes : (f : ℕ → List Entry) → length (lines_text (over 0 f)) ≡ 0
none-bytes f = rw (over_zero f) (ap length text-none)

joined_bytes : (a b : List Entry) → length (lines_text (a ++ b)) ≡ length (lines_text a) + length (lines_text b)
joined_bytes a b = rw (text-append a b) (length-append (lines_text a) (lines_text b))

-- ---- the lines of a set: two digits for each member, and one less below 10

module _ (bytes : ℕ) (here : ℕ → Bool) (line : ℕ → Entry) where
  one-bytes : (b s : Bool) → cond b (bytes + cond s 1 2) 0 + one_if (b && s) ≡ one_if b * (bytes + 2)
  one-bytes true true = omega arith
  one-bytes true false = omega arith
  one-bytes false s = omega arith

  members-bytes : (n : ℕ) → ((j : ℕ) → j < n → length (line_text (line j)) ≡ bytes + width j)
      → length (lines_text (over n (λ j. only (here j) (line j)))) + count n (λ j. here j && ltb j 10) ≡ count n here * (bytes + 2)
  unfolding count width
  members-bytes zero h = rw (none-bytes (λ j. only (here j) (line j))) (omega arith)
  members-bytes (suc n) h =
      let before = members-bytes n (λ j l. h j (omega arith)) in
      let last = only-bytes (here n) (line n) (h n (omega arith)) in
      rw (over-bytes n (λ j. only (here j) (line j)), last) (omega (arith, before, one-bytes (here n) (ltb n 10), add-mul (count n here) (one_if (here n)) (bytes + 2)))

-- the members below 10
alike : (a b : Bool) → cond a b (not b) ≡ true → a ≡ b
alike true true h = refl
alike true false h = sym h
alike false true h = h
alike false false h = refl

ten-tested : all 64 (λ j. cond (member 1023 j) (ltb j 10) (not (ltb j 10))) ≡ true
unfolding member all
ten-tested = refl

below-ten : (j : ℕ) → j < 64 → member 1023 j ≡ ltb j 10
below-ten j h = alike (member 1023 j) (ltb j 10) (of-all 64 (λ i. cond (member 1023 i) (ltb i 10) (not (ltb i 10))) ten-tested j h)

short-members : (set : ℕ) → count 64 (member (intersection set 1023)) ≡ count 64 (λ j. member set j && ltb j 10)
short-members set = count_same 64 _ _ (λ j l. member-intersection set 1023 j ∙ ap (λ (b : Bool). member set j && b) (below-ten j l))

module _ (bytes set : ℕ) {members short : ℕ} (all-members : members ≡ count 64 (member set)) (short-ones : short ≡ count 64 (member (intersection set 1023))) where
  pub few-members : members ≤ 64
  few-members = rw all-members (count-le 64 (member set))

  pub product-most : bytes ≤ 30 → members * (bytes + 2) ≤ 2048
  product-most h = let two : bytes + 2 ≤ 32 = omega arith in omega (arith, mul-le-mul few-members two)

  pub short-most : short ≤ members * (bytes + 2)
  short-most =
      let fewer : short ≤ members = rw (short-ones, short-members set, all-members) (count-mono 64 _ _ (λ j l e. left-true (member set j) (ltb j 10) e)) in
      let two : 1 ≤ bytes + 2 = omega arith in
      omega (arith, mul-le-mul (le_refl members) two)

  pub set-measured : bytes ≤ 30 → SetMeasured bytes set (members * (bytes + 2) - short)
  unfolding set_lines member_lines
  set-measured h =
      let product : members * (bytes + 2) ≡ count 64 (member set) * (bytes + 2) = rw all-members in
      record {
        lines = λ line each. omega (arith, members-bytes bytes (member set) line 64 each, short-ones, short-members set);
        bounded = omega (arith, product-most h);
      }

-- ---- single lines, with any numbers that a machine has

module _ (e : Entry) {r : ℕ} (h : r ≡ capped (length (line_text e))) where
  pub line-measured : length (line_text e) ≤ last_place → r ≡ length (line_text e)
  line-measured k = h ∙ capped_small (length (line_text e)) k

  one-measured : {most : ℕ} → length (line_text e) ≤ most → most ≤ last_place → Measured (e ∷ []) most r
  one-measured k l = record { bytes = line-measured (omega arith) ∙ sym (ap length (text-one e)); bounded = omega (arith, line-measured (omega arith)) }

pub none-measured : (most : ℕ) → Measured [] most 0
none-measured most = record { bytes = sym (ap length text-none); bounded = omega arith }

pub now-measured : (t : ℕ) {r : ℕ} → t < 2 ^ 64 → r ≡ capped (length (line_text (Now t))) → Measured (Now t ∷ []) 100 r
now-measured t k h = one-measured (Now t) h (omega (arith, now-bytes t, digits-length 19 t (omega arith))) (omega arith)

pub open-measured : (i user : ℕ) {r : ℕ} → i < 2 ^ 64 → user < 2 ^ 64 → r ≡ capped (length (line_text (Open i user))) → Measured (Open i user ∷ []) 100 r
open-measured i user k l h = one-measured (Open i user) h (omega (arith, open-bytes i user, digits-length 19 i (omega arith), digits-length 19 user (omega arith))) (omega arith)

signed-length : (v : ℕ) → v < 10 ^ 20 → length (signed_of v) ≤ 21
unfolding signed_of
signed-length v h = go (ltb 10000000000 v)
  where
    go : (b : Bool) → length (cond b (45 ∷ digits_of (v - 10000000000)) (digits_of v)) ≤ 21
    go true = omega (arith, digits-length 19 (v - 10000000000) (omega arith))
    go false = omega (arith, digits-length 19 v h)

code-small : (z : ℤ) → SFits w32 z → signed_code z < 10 ^ 20
unfolding signed_code
code-small (pos n) h = omega (arith, h.sfits)
code-small (negsuc n) h = omega (arith, h.sfits)

pub place-measured : (i : ℕ) (point : Point) {r : ℕ} → i < 2 ^ 64 → SFits w32 point.x → SFits w32 point.y → point.error < 2 ^ 64 → r ≡ capped (length (line_text (place_line i point))) → Measured (place_line i point ∷ []) 100 r
unfolding place_line
place-measured i point {r} k fx fy l h = go (eqb point.error 0) h
  where
    x : length (signed_of (signed_code point.x)) ≤ 21
    x = signed-length (signed_code point.x) (code-small point.x fx)

    y : length (signed_of (signed_code point.y)) ≤ 21
    y = signed-length (signed_code point.y) (code-small point.y fy)

    go : (b : Bool) → r ≡ capped (length (line_text (cond b (Place i point.x point.y) (PlaceWithError i point.x point.y point.error))))
        → Measured (cond b (Place i point.x point.y) (PlaceWithError i point.x point.y point.error) ∷ []) 100 r
    go true h =
        one-measured (Place i point.x point.y) h (omega (arith, place-bytes i point.x point.y, digits-length 19 i (omega arith), x, y)) (omega arith)
    go false h =
        one-measured (PlaceWithError i point.x point.y point.error) h
        (omega (arith, error-bytes i point.x point.y point.error, digits-length 19 i (omega arith), x, y, digits-length 19 point.error (omega arith))) (omega arith)

-- a loan's numbers are bytes, and its end is below 2 ^ 32
pub loan-measured : (loan : Loan) {r : ℕ} → loan.lender < 256 → loan.borrower < 256 → loan.role < 256 → loan.until < 2 ^ 32 → r ≡ capped (length (line_text (loan_line loan)))
    → Measured (loan_line loan ∷ []) 100 r
loan-measured loan hu hv hr ht h =
    let u = digits-length 19 loan.lender (omega arith) in
    let v = digits-length 19 loan.borrower (omega arith) in
    let r = digits-length 19 loan.role (omega arith) in
    let t = digits-length 19 loan.until (omega arith) in
    one-measured (loan_line loan) h (omega (arith, loan-bytes loan.lender loan.borrower loan.role loan.until, u, v, r, t)) (omega arith)

-- ---- parts one after the other

pub sum-start : (f : ℕ → List Entry) → 0 ≡ length (lines_text (over 0 f))
sum-start f = sym (none-bytes f)

pub sum-turn : (f : ℕ → List Entry) (i : ℕ) {total r : ℕ} → total ≡ length (lines_text (over i f)) → r ≡ length (lines_text (f i)) → total + r ≡ length (lines_text (over (i + 1) f))
sum-turn f i h k = sym (rw (add-one i) (over-bytes i f ∙ rw (← h, ← k)))

-- ---- the loans

pub loans-start : 0 ≡ length (lines_text [])
loans-start = sym (ap length text-none)

pub loans-turn : (loans : List Loan) (i : ℕ) (filler : Loan) {total r : ℕ} → total ≡ length (lines_text (map loan_line (take i loans))) → i < length loans
    → Measured (loan_line (get_or loans i filler) ∷ []) 100 r → total + r ≡ length (lines_text (map loan_line (take (i + 1) loans)))
loans-turn loans i filler h l m =
    sym (rw (add-one i, take-suc loans i filler l, map-append) (joined_bytes (map loan_line (take i loans)) (loan_line (get_or loans i filler) ∷ []) ∙ rw (← h, ← m.bytes)))

-- ---- rows

-- each line has so many bytes beside its two numbers' digits
abbrev pub EachLine : (ℕ → ℕ → Entry) → ℕ → Type 0
EachLine line bytes = (i j : ℕ) → i < 64 → j < 64 → length (line_text (line i j)) ≡ bytes + (width i + width j)

abbrev pub RowsTill : ℕ → List ℕ → ℕ → ℕ → Type 0
RowsTill bytes words total i = (line : ℕ → ℕ → Entry) → EachLine line bytes → total ≡ length (lines_text (over i (row_lines line words)))

pub rows-turn : (bytes : ℕ) (words : List ℕ) {total i r : ℕ} → RowsTill bytes words total i → i < 64 → word_at words i < 2 ^ 32
    → SetMeasured (bytes + width i) (word_at words i) r → RowsTill bytes words (total + r) (i + 1)
unfolding row_lines
rows-turn bytes words {i = i} before h small set line each =
    let here : (j : ℕ) → j < 64 → length (line_text (line i j)) ≡ bytes + width i + width j = λ j l. omega (arith, each i j h l) in
    sum-turn (row_lines line words) i (before line each) (set.lines (line i) here ∙ ap (λ (es : List Entry). length (lines_text es)) (low-set (line i) (word_at words i) small))

-- ---- the history

pub history-turn : (words : List ℕ) (i : ℕ) {total r : ℕ} → total ≡ length (lines_text (over i (history_lines words))) → i < 1024
    → SetMeasured (9 + width (i / 32) + width (i % 32)) (word_at words i) r → total + r ≡ length (lines_text (over (i + 1) (history_lines words)))
unfolding history_lines
history-turn words i before h set =
    let line : (u : ℕ) → u < 64 → length (line_text (Did (i / 32) (i % 32) u)) ≡ 9 + width (i / 32) + width (i % 32) + width u =
    λ u l. omega (arith, did-size (i / 32) (i % 32) u (omega arith) (omega arith) (omega arith)) in
    sum-turn (history_lines words) i before (set.lines (Did (i / 32) (i % 32)) line)

-- ---- a session

pub session-measured : (i : ℕ) (session : Session) (roles : ℕ) → roles < 2 ^ 32 → i < 32 → {opened placed active : ℕ}
    → Measured (open_lines i session.is_open session.user) 100 opened → Measured (place_lines i session.position) 100 placed → SetMeasured (11 + width i) roles active
    → Measured (session_parts i session roles) 4096 (opened + placed + active)
unfolding session_parts
session-measured i session roles small h {opened} {placed} {active} o p a =
    let line : (j : ℕ) → j < 64 → length (line_text (Active i j)) ≡ 11 + width i + width j = λ j l. omega (arith, active-size i j (omega arith) (omega arith)) in
    let last : active ≡ length (lines_text (over 32 (member_lines (Active i) roles))) = a.lines (Active i) line ∙ ap (λ (es : List Entry). length (lines_text es)) (low-set (Active i) roles small) in
    record {
      bytes = sym (joined_bytes (open_lines i session.is_open session.user) (place_lines i session.position ++ over 32 (member_lines (Active i) roles))
          ∙ omega (arith, joined_bytes (place_lines i session.position) (over 32 (member_lines (Active i) roles)), o.bytes, p.bytes, last));
      bounded = omega (arith, o.bounded, p.bounded, a.bounded);
    }

-- ---- the whole state

pub saved-measured : (s : State) → length s.assigned ≡ 64 → length s.granted ≡ 32 → {time roles permissions lent sessions history a b c : ℕ}
    → Measured (Now s.time ∷ []) 100 time → RowsMeasured 13 s.assigned roles → RowsMeasured 12 s.granted permissions
    → Measured (map loan_line (loans_of s)) c lent
    → Measured (over 32 (session_parts_at s.sessions s.active)) a sessions → Measured (over 1024 (history_lines s.history)) b history
    → time + roles + permissions + lent + sessions + history ≡ length (saved_text s)
saved-measured s ha hg {time} {roles} {permissions} {lent} {sessions} {history} t r p loans l h =
    let one : roles ≡ length (lines_text (over (length s.assigned) (row_lines Assigned s.assigned))) = r.lines Assigned (λ u r hu hr. assigned-size u r (omega arith) (omega arith)) in
    let two : permissions ≡ length (lines_text (over (length s.granted) (row_lines Granted s.granted))) = p.lines Granted (λ r p hr hp. granted-size r p (omega arith) (omega arith)) in
    let now : time ≡ length (line_text (Now s.time)) = t.bytes ∙ ap length (text-one (Now s.time)) in
    sym (ap length (saved-parts s ha hg) ∙ simp length-append (omega (arith, now, one, two, loans.bytes, l.bytes, h.bytes)))
