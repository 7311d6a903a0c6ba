-- Laws of the writer's functions: a loop that writes one part after another, the lines of a set, and the whole state.
-- Assumes nothing.
use mathlib.Core.Path.{◌≡◌, refl, sym, ap, ◌∙◌}
use mathlib.Core.Bool.{Bool, true, false}
use mathlib.Core.List.{List, [], ◌∷◌, ◌++◌, map, map-append}
use Prim.Native.Nat.{ℕ, ◌+◌, ◌*◌, ◌/◌, ◌%◌, ◌^◌, ◌≤◌, ◌<◌}
use native.Mathlib.Numerals.{add-one}
use native.Mathlib.Omega.{arith}
use lib.ListN.{length, get_or, take}
use lib.Seq.{take-suc, take_all}
use borrow.Author.Tests.{le-leb, lt-leb}
use Rattle.sets.specs.Sets.{member}
use Rattle.sets.proofs.Members.{member-empty}
use Rattle.sets.proofs.Width.{member-past}
use Rattle.forms.specs.Writing.{last_place, Wrote, written_of, lent_after}
use Rattle.std.specs.Prelude.{Result, Ok, Err}
use Rattle.forms.proofs.Puts.{then, like, nothing_written, next-most, same_length, measure, at_front}
use Rattle.rules.specs.Families.{word_at, session_at}
use Rattle.rules.specs.declared.sessions.Session.{Session}
use Rattle.loans.specs.declared.Loan.{Loan}
use Rattle.enforcement.specs.States.{assigned_role, carries, loans_of, did, state_accepted}
use Rattle.enforcement.specs.declared.states.State.{State}
use Rattle.state_text.specs.Entries.{line_text}
use Rattle.state_text.specs.Saving.{over, only, loan_line, place_lines, session_lines, lines_of, lines_text, saved_text, written_state, lent_state}
use Rattle.state_text.specs.Parts.{member_lines, set_lines, row_lines, history_lines, open_lines, session_parts, session_parts_at}
use Rattle.state_text.specs.declared.entries.Entry.{Entry}
use Rattle.state_text.specs.declared.entries.Entry.TheVariants.{Now, Assigned, Granted, Active, Did}
use Rattle.state_text.proofs.Rows.{over_zero, over-suc, over-same, over-more, over-mul}
use Rattle.state_text.proofs.Cells.{carries-word, did-word, object_of, permission-of}
use Rattle.state_text.proofs.JoinedLines.{text-append, text-none, text-one}

-- ---- a loop that writes the parts f 0, f 1, ..

pub record Loop (f : ℕ → List Entry) (l₀ : List ℕ) (at : ℕ) (l : List ℕ) (p j : ℕ) : Type 0 where
  pub wrote : Wrote l₀ at (lines_text (over j f)) p l
  pub small : length l₀ ≤ last_place

pub start : (f : ℕ → List Entry) (l : List ℕ) (at : ℕ) → length l ≤ last_place → at ≤ last_place → Loop f l at l at 0
start f l at h k = record { wrote = like (rw (over_zero f) text-none) (nothing_written l at k); small = h }

pub turn : {f : ℕ → List Entry} {l₀ : List ℕ} {at : ℕ} {l : List ℕ} {p j : ℕ} → Loop f l₀ at l p j
    → {p' : ℕ} {l' : List ℕ} → Wrote l p (lines_text (f j)) p' l' → Loop f l₀ at l' p' (j + 1)
turn {f} {l₀} {at} {l} {p} {j} inv {p'} {l'} h = record {
  wrote = like (rw (add-one, over-suc j f) (text-append (over j f) (f j))) (then inv.small inv.wrote h);
  small = inv.small;
}

pub same : {f : ℕ → List Entry} {l₀ : List ℕ} {at : ℕ} {l : List ℕ} {p j : ℕ} → Loop f l₀ at l p j → length l ≡ length l₀
same inv = same_length inv.wrote

pub end : {f : ℕ → List Entry} {l₀ : List ℕ} {at : ℕ} {l : List ℕ} {p j : ℕ} (n : ℕ) → Loop f l₀ at l p j → j ≤ n → n ≤ j
    → Wrote l₀ at (lines_text (over n f)) p l
end {f} {l₀} {at} {l} {p} {j} n inv a b = let e : n ≡ j = omega arith in rw e inv.wrote

-- ---- one line, or none

pub one_line : (e : Entry) {l : List ℕ} {i r : ℕ} {l' : List ℕ} → Wrote l i (line_text e) r l' → Wrote l i (lines_text (e ∷ [])) r l'
one_line e w = like (text-one e) w

pub no_line : (l : List ℕ) (i : ℕ) → i ≤ last_place → Wrote l i (lines_text []) i l
no_line l i h = like text-none (nothing_written l i h)

pub only_yes : (b : Bool) (e : Entry) → b ≡ true → {l : List ℕ} {i r : ℕ} {l' : List ℕ} → Wrote l i (line_text e) r l' → Wrote l i (lines_text (only b e)) r l'
only_yes b e h w = rw h (one_line e w)

pub only_no : (b : Bool) (e : Entry) → b ≡ false → (l : List ℕ) (i : ℕ) → i ≤ last_place → Wrote l i (lines_text (only b e)) i l
only_no b e h l i k = rw h (no_line l i k)

-- ---- the lines of a set

no-members : (line : ℕ → Entry) → set_lines line 0 ≡ []
unfolding set_lines member_lines
no-members line = over-more 64 0 (λ j. only (member 0 j) (line j)) (λ j p q. rw (member-empty j)) ∙ over_zero (λ j. only (member 0 j) (line j))

pub empty-set : (line : ℕ → Entry) (set : ℕ) → set ≡ 0 → (l : List ℕ) (i : ℕ) → i ≤ last_place → Wrote l i (lines_text (set_lines line set)) i l
empty-set line set e l i h = like (rw (e, no-members line) text-none) (nothing_written l i h)

-- a member is written, or passed over
pub member-turn : (line : ℕ → Entry) (set : ℕ) {l₀ : List ℕ} {at : ℕ} {l : List ℕ} {p j : ℕ} → Loop (member_lines line set) l₀ at l p j → member set j ≡ true
    → {e : Entry} → e ≡ line j → {p' : ℕ} {l' : List ℕ} → Wrote l p (line_text e) p' l' → Loop (member_lines line set) l₀ at l' p' (j + 1)
unfolding member_lines
member-turn line set inv h g w = turn inv (rw (h, ← g) (one_line _ w))

pub other-turn : (line : ℕ → Entry) (set : ℕ) {l₀ : List ℕ} {at : ℕ} {l : List ℕ} {p j : ℕ} → Loop (member_lines line set) l₀ at l p j → member set j ≡ false
    → Loop (member_lines line set) l₀ at l p (j + 1)
unfolding member_lines
other-turn line set {l = l} {p = p} inv h = turn inv (rw h (no_line l p (next-most inv.wrote)))

-- a set of numbers below 32
pub low-set : (line : ℕ → Entry) (set : ℕ) → set < 2 ^ 32 → set_lines line set ≡ over 32 (member_lines line set)
unfolding set_lines member_lines
low-set line set h = over-more 32 32 (λ j. only (member set j) (line j)) (λ j p q. rw (member-past 32 set j h p))

pub row-turn : (line : ℕ → ℕ → Entry) (words : List ℕ) {l₀ : List ℕ} {at : ℕ} {l : List ℕ} {p i : ℕ} → Loop (row_lines line words) l₀ at l p i
    → word_at words i < 2 ^ 32 → {p' : ℕ} {l' : List ℕ} → Wrote l p (lines_text (set_lines (line i) (word_at words i))) p' l' → Loop (row_lines line words) l₀ at l' p' (i + 1)
unfolding row_lines
row-turn line words {i = i} inv h w = turn inv (like (ap lines_text (sym (low-set (line i) (word_at words i) h))) w)

pub history-turn : (words : List ℕ) {l₀ : List ℕ} {at : ℕ} {l : List ℕ} {p i : ℕ} → Loop (history_lines words) l₀ at l p i
    → {p' : ℕ} {l' : List ℕ} → Wrote l p (lines_text (set_lines (Did (i / 32) (i % 32)) (word_at words i))) p' l' → Loop (history_lines words) l₀ at l' p' (i + 1)
unfolding history_lines
history-turn words inv w = turn inv w

-- ---- the loans

-- those before i are written
pub record Listed (loans : List Loan) (l₀ : List ℕ) (at : ℕ) (l : List ℕ) (p i : ℕ) : Type 0 where
  pub wrote : Wrote l₀ at (lines_text (map loan_line (take i loans))) p l
  pub small : length l₀ ≤ last_place

pub list-start : (loans : List Loan) (l : List ℕ) (at : ℕ) → length l ≤ last_place → at ≤ last_place → Listed loans l at l at 0
list-start loans l at h k = record { wrote = no_line l at k; small = h }

pub list-turn : {loans : List Loan} {l₀ : List ℕ} {at : ℕ} {l : List ℕ} {p i : ℕ} → Listed loans l₀ at l p i → (filler : Loan) → i < length loans
    → {p' : ℕ} {l' : List ℕ} → Wrote l p (line_text (loan_line (get_or loans i filler))) p' l' → Listed loans l₀ at l' p' (i + 1)
list-turn {loans} {i = i} inv filler h w = record {
  wrote = like (rw (add-one i, take-suc loans i filler h, map-append) (text-append (map loan_line (take i loans)) (loan_line (get_or loans i filler) ∷ []))) (then inv.small inv.wrote (one_line _ w));
  small = inv.small;
}

pub list-end : {loans : List Loan} {l₀ : List ℕ} {at : ℕ} {l : List ℕ} {p i : ℕ} → Listed loans l₀ at l p i → length loans ≤ i → Wrote l₀ at (lines_text (map loan_line loans)) p l
list-end {loans} {i = i} inv h = like (ap (λ (x : List Loan). lines_text (map loan_line x)) (sym (take_all i loans h))) inv.wrote

-- ---- a session

pub session-parts : (i : ℕ) (session : Session) (roles : ℕ) → roles < 2 ^ 32
    → {l : List ℕ} {at a : ℕ} {k : List ℕ} {b : ℕ} {m : List ℕ} {r : ℕ} {l' : List ℕ} → length l ≤ last_place
    → Wrote l at (lines_text (open_lines i session.is_open session.user)) a k
    → Wrote k a (lines_text (place_lines i session.position)) b m
    → Wrote m b (lines_text (set_lines (Active i) roles)) r l'
    → Wrote l at (lines_text (session_parts i session roles)) r l'
unfolding session_parts
session-parts i session roles h {l} {at} {a} {k} {b} {m} {r} {l'} small opened placed active =
    like
    (text-append (open_lines i session.is_open session.user) (place_lines i session.position ++ over 32 (member_lines (Active i) roles))
    ∙ ap (λ (t : List ℕ). lines_text (open_lines i session.is_open session.user) ++ t) (text-append (place_lines i session.position) (over 32 (member_lines (Active i) roles))))
    (then small opened (then (rw (same_length opened) small) placed (like (ap lines_text (sym (low-set (Active i) roles h))) active)))

pub session-turn : (sessions : List Session) (active : List ℕ) {l₀ : List ℕ} {at : ℕ} {l : List ℕ} {p i : ℕ} → Loop (session_parts_at sessions active) l₀ at l p i
    → {p' : ℕ} {l' : List ℕ} → Wrote l p (lines_text (session_parts i (session_at sessions i) (word_at active i))) p' l' → Loop (session_parts_at sessions active) l₀ at l' p' (i + 1)
unfolding session_parts_at
session-turn sessions active inv w = turn inv w

-- ---- the whole state

assigned-rows : (s : State) → over 64 (row_lines Assigned s.assigned) ≡ over 64 (λ u. over 32 (λ r. only (assigned_role s u r) (Assigned u r)))
unfolding row_lines member_lines
assigned-rows s = refl

granted-rows : (s : State) → over 32 (row_lines Granted s.granted) ≡ over 32 (λ r. over 32 (λ p. only (carries s r p) (Granted r p)))
unfolding row_lines member_lines
granted-rows s = over-same 32 _ _ (λ r hr. over-same 32 _ _ (λ p hp. ap (λ (b : Bool). only b (Granted r p)) (sym (carries-word s r p hr))))

session-rows : (s : State) → over 32 (session_parts_at s.sessions s.active) ≡ over 32 (session_lines s)
unfolding session_parts_at session_parts session_lines open_lines member_lines
session-rows s = refl

history-one : (s : State) (o p : ℕ) → p < 32 → history_lines s.history (o * 32 + p) ≡ over 64 (λ u. only (did s o p u) (Did o p u))
unfolding history_lines set_lines member_lines
history-one s o p h = rw (object_of o p h, permission-of o p h) (over-same 64 _ _ (λ u l. ap (λ (b : Bool). only b (Did o p u)) (sym (did-word s o p u h))))

history-rows : (s : State) → over 1024 (history_lines s.history) ≡ over 32 (λ o. over 32 (λ p. over 64 (λ u. only (did s o p u) (Did o p u))))
history-rows s = over-mul 32 32 (history_lines s.history) ∙ over-same 32 _ _ (λ o ho. over-same 32 _ _ (λ p hp. history-one s o p hp))

saved-whole : (s : State)
    → saved_text s ≡ lines_text (Now s.time ∷ [])
    ++ (lines_text (over 64 (λ u. over 32 (λ r. only (assigned_role s u r) (Assigned u r))))
    ++ (lines_text (over 32 (λ r. over 32 (λ p. only (carries s r p) (Granted r p))))
    ++ (lines_text (map loan_line (loans_of s))
    ++ (lines_text (over 32 (session_lines s)) ++ lines_text (over 32 (λ o. over 32 (λ p. over 64 (λ u. only (did s o p u) (Did o p u)))))))))
unfolding saved_text lines_of
saved-whole s =
    text-append _ _ ∙ ap (λ (z : List ℕ). lines_text (Now s.time ∷ []) ++ z)
    (text-append _ _ ∙ ap (λ (z : List ℕ). lines_text (over 64 (λ u. over 32 (λ r. only (assigned_role s u r) (Assigned u r)))) ++ z)
    (text-append _ _ ∙ ap (λ (z : List ℕ). lines_text (over 32 (λ r. over 32 (λ p. only (carries s r p) (Granted r p)))) ++ z)
    (text-append _ _ ∙ ap (λ (z : List ℕ). lines_text (map loan_line (loans_of s)) ++ z)
    (text-append _ _))))

pub saved-parts : (s : State) → length s.assigned ≡ 64 → length s.granted ≡ 32
    → saved_text s ≡ line_text (Now s.time)
    ++ (lines_text (over (length s.assigned) (row_lines Assigned s.assigned))
    ++ (lines_text (over (length s.granted) (row_lines Granted s.granted))
    ++ (lines_text (map loan_line (loans_of s))
    ++ (lines_text (over 32 (session_parts_at s.sessions s.active)) ++ lines_text (over 1024 (history_lines s.history))))))
saved-parts s ha hg = rw (ha, hg, assigned-rows s, granted-rows s, session-rows s, history-rows s, ← text-one (Now s.time)) (saved-whole s)

pub state-parts : (s : State) → length s.assigned ≡ 64 → length s.granted ≡ 32
    → {l : List ℕ} {i p : ℕ} {a : List ℕ} {q : ℕ} {b : List ℕ} {x : ℕ} {c : List ℕ} {z : ℕ} {m : List ℕ} {y : ℕ} {d : List ℕ} {r : ℕ} {l' : List ℕ} → length l ≤ last_place
    → Wrote l i (line_text (Now s.time)) p a
    → Wrote a p (lines_text (over (length s.assigned) (row_lines Assigned s.assigned))) q b
    → Wrote b q (lines_text (over (length s.granted) (row_lines Granted s.granted))) x c
    → Wrote c x (lines_text (map loan_line (loans_of s))) z m
    → Wrote m z (lines_text (over 32 (session_parts_at s.sessions s.active))) y d
    → Wrote d y (lines_text (over 1024 (history_lines s.history))) r l'
    → Wrote l i (saved_text s) r l'
state-parts s ha hg small now assigned granted loans sessions history =
    let one = same_length now in
    let two = same_length assigned ∙ one in
    let three = same_length granted ∙ two in
    let four = same_length loans ∙ three in
    like (saved-parts s ha hg)
    (then small now (then (rw one small) assigned (then (rw two small) granted (then (rw three small) loans (then (rw four small) sessions history)))))

-- ---- whole, where it fits

pub too_short : (x l : List ℕ) → length l < length x → (Err 18 ≡ written_of x l) × (l ≡ lent_after x l)
unfolding written_of lent_after
too_short x l h = (rw (lt-leb (length x) (length l) h), rw (lt-leb (length x) (length l) h))

pub fitting : (x l : List ℕ) → length x ≤ length l → length l ≤ last_place → {r : ℕ} {l' : List ℕ} → Wrote l 0 x r l' → (Ok r ≡ written_of x l) × (l' ≡ lent_after x l)
unfolding written_of lent_after
fitting x l h k w = (rw (le-leb (length x) (length l) h, measure (omega arith) w), rw (le-leb (length x) (length l) h) (at_front h w))

-- ---- or a refusal

pub unaccepted : (s : State) (l : List ℕ) → state_accepted s ≡ false → (Err 40 ≡ written_state s l) × (l ≡ lent_state s l)
unfolding written_state lent_state
unaccepted s l e = (rw e, rw e)

pub accepted : (s : State) (l : List ℕ) → state_accepted s ≡ true → {w : Result ℕ ℕ} {k : List ℕ} → (w ≡ written_of (saved_text s) l) × (k ≡ lent_after (saved_text s) l) → (w ≡ written_state s l) × (k ≡ lent_state s l)
unfolding written_state lent_state
accepted s l e h = (rw e h.0, rw e h.1)
