-- The rights at the front of a text: what reading them gives, and what text gives them.
-- Assumes nothing.
use mathlib.Core.Path.{◌≡◌, refl, sym, ap, ◌∙◌, subst}
use mathlib.Core.Bool.{Bool, true, false}
use mathlib.Core.Logic.{◌⊎◌, inl, inr}
use mathlib.Core.List.{List, [], ◌∷◌, ◌++◌, append_assoc}
use Prim.Native.Nat.{ℕ, zero, suc, ◌+◌, ◌≤◌, ◌<◌}
use native.Mathlib.Nat.{zero-add}
use native.Mathlib.Omega.{arith}
use lib.ListN.{length, drop, length-append}
use lib.Seq.{drop-append_seam}
use lib.Dec.{eqb}
use borrow.Author.Tests.{eqb-true, eqb-false}
use Rattle.rules.specs.Acceptance.{right_at, right_accepted}
use Rattle.rules.specs.declared.rights.Right.{Right}
use Rattle.rules.specs.declared.rights.Right.TheVariants.{Unstated, Permission}
use Rattle.rules.specs.declared.rights.RightSlot.{RightSlot}
use Rattle.rule_text.specs.Lines.{right_text, rights_text, line_count, right_lines}
use Rattle.rule_text.specs.Reading.{read_right, right_slot, right_then, rights_from}
use Rattle.rule_text.specs.Causes.{RightStands, Misplaced, second_of_kind, out_of_order, RightsEnd}
use Rattle.rule_text.specs.declared.rights.RightRead.{RightRead}
use Rattle.rule_text.specs.declared.rights.RightsRead.{RightsRead}
use Rattle.rule_text.proofs.RightLines.{RightSays, no_line, a_line, right-says, right-read, none_read, one-kind}

-- ---- which kinds are stated

differ : {X : Type 0} → ◌≡◌ {A = ℕ} 0 1 → X
differ e = absurd (omega arith)

-- from kind i on no right is stated
abbrev pub NoneFrom : ℕ → List RightSlot → Type 0
NoneFrom i slots = (k : ℕ) → i ≤ k → right_at slots k ≡ Unstated

-- the rights after the first, and with it
after_first : (slot : RightSlot) (slots : List RightSlot) (i : ℕ) → NoneFrom (suc i) (slot ∷ slots) → NoneFrom i slots
after_first slot slots i none k h = none (suc k) (omega arith)

before-first : (slot : RightSlot) (slots : List RightSlot) (i : ℕ) → NoneFrom i slots → NoneFrom (suc i) (slot ∷ slots)
before-first slot slots i none zero h = absurd (omega arith)
before-first slot slots i none (suc k) h = none k (omega arith)

first-none : (slot : RightSlot) (slots : List RightSlot) → slot.right ≡ Unstated → NoneFrom 0 slots → NoneFrom 0 (slot ∷ slots)
first-none slot slots e none zero h = e
first-none slot slots e none (suc k) h = none k (omega arith)

-- one is, or none is
pub stated-from : (slots : List RightSlot) (i : ℕ) → NoneFrom i slots ⊎ ((k : ℕ) × (p : ℕ) × (i ≤ k) × (right_at slots k ≡ Permission p))
stated-from [] i = inl (λ k h. refl)
stated-from (slot ∷ slots) (suc i) = later (stated-from slots i)
  where
    later : NoneFrom i slots ⊎ ((k : ℕ) × (p : ℕ) × (i ≤ k) × (right_at slots k ≡ Permission p))
        → NoneFrom (suc i) (slot ∷ slots) ⊎ ((k : ℕ) × (p : ℕ) × (suc i ≤ k) × (right_at (slot ∷ slots) k ≡ Permission p))
    later (inr there) = inr (suc there.0, there.1, omega (arith, there.2), there.3)
    later (inl none) = inl (before-first slot slots i none)
stated-from (slot ∷ slots) zero = first slot.right refl (stated-from slots 0)
  where
    first : (right : Right) → slot.right ≡ right → NoneFrom 0 slots ⊎ ((k : ℕ) × (p : ℕ) × (0 ≤ k) × (right_at slots k ≡ Permission p))
        → NoneFrom 0 (slot ∷ slots) ⊎ ((k : ℕ) × (p : ℕ) × (0 ≤ k) × (right_at (slot ∷ slots) k ≡ Permission p))
    first (Permission p) e next = inr (0, p, omega arith, e)
    first Unstated e (inr there) = inr (suc there.0, there.1, omega arith, there.3)
    first Unstated e (inl none) = inl (first-none slot slots e none)

-- rights that are not stated have no text
unstated-text : (slots : List RightSlot) (kind : ℕ) → NoneFrom 0 slots → rights_text kind slots ≡ []
unfolding rights_text right_text
unstated-text [] kind none = refl
unstated-text (slot ∷ slots) kind none = rw (none 0 (omega arith), unstated-text slots (suc kind) (λ k h. none (suc k) (omega arith)))

-- a kind has at most one line
pub lines-few : (rights : List RightSlot) → right_lines rights ≤ length rights
unfolding right_lines
lines-few [] = omega arith
lines-few (slot ∷ rights) = omega (arith, one_at_most slot.right, lines-few rights)
  where
    one_at_most : (right : Right) → line_count right ≤ 1
    one_at_most Unstated = omega arith
    one_at_most (Permission p) = omega arith

-- ---- what is read

-- the text is the lines of the rights, and goes on with no line of a kind that is still free
pub record RightsReads (kinds kind : ℕ) (text : List ℕ) (read : RightsRead) : Type 0 where
  pub count : length read.rights ≡ kinds
  pub fits_range : (i : ℕ) → right_accepted (right_at read.rights i) ≡ true
  pub counted : read.lines ≡ right_lines read.rights
  pub rest : List ℕ
  pub reads : text ≡ rights_text kind read.rights ++ rest
  pub bytes : read.length ≡ length (rights_text kind read.rights)
  pub ends : (i : ℕ) → i < kinds → NoneFrom i read.rights → (permission : ℕ) → RightStands rest (kind + i) permission → ⊥

module _ (kinds kind : ℕ) (text : List ℕ) where
  -- no line of the kind stands there
  reads_none : (next : RightsRead) → ((permission : ℕ) → RightStands text kind permission → ⊥) → RightsReads kinds (suc kind) text next
      → RightsReads (suc kinds) kind text (right_then (record { right = Unstated; length = 0 }) next)
  unfolding rights_text right_text right_lines
  reads_none next none there = record {
    count = ap suc there.count;
    fits_range = each;
    counted = ap (λ (n : ℕ). 0 + n) there.counted;
    rest = there.rest;
    reads = there.reads;
    bytes = omega (arith, there.bytes);
    ends = ended;
  }
    where
      first : RightSlot
      first = record { right = Unstated }

      slots : List RightSlot
      slots = first ∷ next.rights

      each : (i : ℕ) → right_accepted (right_at slots i) ≡ true
      each zero = refl
      each (suc i) = there.fits_range i

      ended : (i : ℕ) → i < suc kinds → NoneFrom i slots → (permission : ℕ) → RightStands there.rest (kind + i) permission → ⊥
      ended zero h free permission st =
          let same : text ≡ there.rest = there.reads ∙ ap (λ (front : List ℕ). front ++ there.rest) (unstated-text next.rights (suc kind) (λ k l. free (suc k) (omega arith))) in
          let here : kind + 0 ≡ kind = omega arith in
          none permission (subst (λ (t : List ℕ). RightStands t kind permission) (sym same) (rw here at st))
      ended (suc i) h free permission st =
          let here : kind + suc i ≡ suc kind + i = omega arith in
          there.ends i (omega arith) (after_first first next.rights i free) permission (rw here at st)

  -- the line of the kind stands there
  reads-line : (next : RightsRead) (permission : ℕ) → (st : RightStands text kind permission) → RightsReads kinds (suc kind) st.rest next
      → RightsReads (suc kinds) kind text (right_then (record { right = Permission permission; length = length (right_text kind (Permission permission)) }) next)
  unfolding rights_text right_lines
  reads-line next permission st there = record {
    count = ap suc there.count;
    fits_range = each;
    counted = ap (λ (n : ℕ). 1 + n) there.counted;
    rest = there.rest;
    reads =
        st.reads ∙ ap (λ (rest : List ℕ). right_text kind (Permission permission) ++ rest) there.reads
        ∙ sym (append_assoc (right_text kind (Permission permission)) (rights_text (suc kind) next.rights) there.rest);
    bytes = rw (length-append, there.bytes);
    ends = ended;
  }
    where
      first : RightSlot
      first = record { right = Permission permission }

      slots : List RightSlot
      slots = first ∷ next.rights

      each : (i : ℕ) → right_accepted (right_at slots i) ≡ true
      each zero = st.fits_range
      each (suc i) = there.fits_range i

      ended : (i : ℕ) → i < suc kinds → NoneFrom i slots → (p : ℕ) → RightStands there.rest (kind + i) p → ⊥
      ended zero h free p st' = let stated : Permission permission ≡ Unstated = free 0 (omega arith) in differ cc
      ended (suc i) h free p st' =
          let here : kind + suc i ≡ suc kind + i = omega arith in
          there.ends i (omega arith) (after_first first next.rights i free) p (rw here at st')

pub reads-rights : (kinds kind : ℕ) (text : List ℕ) → kind + kinds ≤ 6 → RightsReads kinds kind text (rights_from kinds kind text)
unfolding rights_from
reads-rights zero kind text few = record {
  count = refl;
  fits_range = λ i. refl;
  counted = unfold right_lines in refl;
  rest = text;
  reads = unfold rights_text in refl;
  bytes = unfold rights_text in refl;
  ends = λ i h free permission st. omega arith;
}
reads-rights (suc kinds) kind text few =
    go (read_right kind text) (right-says kind text (omega arith)) (λ rest. reads-rights kinds (suc kind) rest (omega arith))
  where
    go : (read : RightRead) → RightSays kind text read → ((rest : List ℕ) → RightsReads kinds (suc kind) rest (rights_from kinds (suc kind) rest))
        → RightsReads (suc kinds) kind text (right_then read (rights_from kinds (suc kind) (drop read.length text)))
    go read (no_line none) next = reads_none kinds kind text (rights_from kinds (suc kind) text) none (next text)
    go read (a_line permission st) next =
        let left : drop (length (right_text kind (Permission permission))) text ≡ st.rest =
        ap (drop (length (right_text kind (Permission permission)))) st.reads ∙ drop-append_seam (right_text kind (Permission permission)) st.rest in
        rw left (reads-line kinds kind text (rights_from kinds (suc kind) st.rest) permission st (next st.rest))

-- and so no good line of a right stands there before the first rule
pub rights-end : {text : List ℕ} {read : RightsRead} (there : RightsReads 6 0 text read) → RightsEnd read.rights 1 there.rest
rights-end {text} {read} there kind permission st = go (stated-from read.rights kind)
  where
    by_order : (k p : ℕ) → kind ≤ k → right_at read.rights k ≡ Permission p → (b : Bool) → eqb k kind ≡ b → Misplaced read.rights 1 kind
    by_order k p h e true same = second_of_kind p (rw (eqb-true k kind same) at e)
    by_order k p h e false other =
        let apart : k ≡ kind → ⊥ = eqb-false k kind other in
        out_of_order k p (omega arith) e

    go : NoneFrom kind read.rights ⊎ ((k : ℕ) × (p : ℕ) × (kind ≤ k) × (right_at read.rights k ≡ Permission p)) → Misplaced read.rights 1 kind
    go (inl free) =
        let here : kind ≡ 0 + kind = omega arith in
        absurd (there.ends kind st.known free permission (subst (λ (k : ℕ). RightStands there.rest k permission) here st))
    go (inr stated) = by_order stated.0 stated.1 stated.2 stated.3 (eqb stated.0 kind) refl

-- ---- the text of rights is read as those

-- after the lines of later kinds, or none, stands no line of a kind that comes before them
no-earlier : (slots : List RightSlot) (from kind : ℕ) (rest : List ℕ) → kind < from → from + length slots ≤ 6
    → ((i : ℕ) → i < length slots → right_accepted (right_at slots i) ≡ true)
    → (NoneFrom 0 slots → (permission : ℕ) → RightStands rest kind permission → ⊥)
    → (permission : ℕ) → RightStands (rights_text from slots ++ rest) kind permission → ⊥
unfolding rights_text right_text
no-earlier [] from kind rest less few accepted ends permission st = ends (λ k h. refl) permission st
no-earlier (slot ∷ slots) from kind rest less few accepted ends permission st =
    go slot.right refl (no-earlier slots (suc from) kind rest (omega arith) (omega arith) (λ i h. accepted (suc i) (omega arith)))
  where
    go : (right : Right) → slot.right ≡ right
        → ((NoneFrom 0 slots → (p : ℕ) → RightStands rest kind p → ⊥) → (p : ℕ) → RightStands (rights_text (suc from) slots ++ rest) kind p → ⊥) → ⊥
    go Unstated e later = later (λ none p st'. ends (first-none slot slots e none) p st') permission (rw e at st)
    go (Permission p) e later =
        let there : RightStands (rights_text from (slot ∷ slots) ++ rest) from p =
        record { known = omega arith; fits_range = rw e at (accepted 0 (omega arith)); rest = rights_text (suc from) slots ++ rest; reads = rw e (append_assoc (right_text from (Permission p)) (rights_text (suc from) slots) rest) } in
        let same : kind ≡ from = one-kind there st in
        omega arith

-- one right more in front
module _ (slots : List RightSlot) (kind : ℕ) (rest : List ℕ) (few : suc kind + length slots ≤ 6)
    (accepted : (i : ℕ) → i < length slots → right_accepted (right_at slots i) ≡ true)
    (next : rights_from (length slots) (suc kind) (rights_text (suc kind) slots ++ rest) ≡ record { rights = slots; length = length (rights_text (suc kind) slots); lines = right_lines slots }) where
  one_more : (right : Right) → right_accepted right ≡ true
      → (right ≡ Unstated → NoneFrom 0 slots → (permission : ℕ) → RightStands rest kind permission → ⊥)
      → rights_from (suc (length slots)) kind ((right_text kind right ++ rights_text (suc kind) slots) ++ rest)
      ≡ record { rights = right_slot right ∷ slots; length = length (right_text kind right ++ rights_text (suc kind) slots); lines = line_count right + right_lines slots }
  unfolding rights_from right_text
  one_more Unstated fits_range ends =
      rw (none_read kind (rights_text (suc kind) slots ++ rest) (omega arith) (no-earlier slots (suc kind) kind rest (omega arith) few accepted (ends refl)), next)
      (simp zero-add)
  one_more (Permission p) fits_range ends =
      let text = right_text kind (Permission p) ++ (rights_text (suc kind) slots ++ rest) in
      let st : RightStands text kind p = record { known = omega arith; fits_range = fits_range; rest = rights_text (suc kind) slots ++ rest; reads = refl } in
      rw (append_assoc (right_text kind (Permission p)) (rights_text (suc kind) slots) rest, right-read kind text p st, drop-append_seam, next, length-append)

pub rights-back : (slots : List RightSlot) (kind : ℕ) (rest : List ℕ) → kind + length slots ≤ 6
    → ((i : ℕ) → i < length slots → right_accepted (right_at slots i) ≡ true)
    → ((i : ℕ) → i < length slots → NoneFrom i slots → (permission : ℕ) → RightStands rest (kind + i) permission → ⊥)
    → rights_from (length slots) kind (rights_text kind slots ++ rest) ≡ record { rights = slots; length = length (rights_text kind slots); lines = right_lines slots }
unfolding rights_text right_lines
rights-back [] kind rest few accepted ends = unfold rights_from in refl
rights-back (slot ∷ slots) kind rest few accepted ends =
    one_more slots kind rest (omega arith) later-accepted (rights-back slots (suc kind) rest (omega arith) later-accepted later-ends) slot.right (accepted 0 (omega arith)) first_ends
  where
    later-accepted : (i : ℕ) → i < length slots → right_accepted (right_at slots i) ≡ true
    later-accepted i h = accepted (suc i) (omega arith)

    later-ends : (i : ℕ) → i < length slots → NoneFrom i slots → (permission : ℕ) → RightStands rest (suc kind + i) permission → ⊥
    later-ends i h none permission st =
        let here : suc kind + i ≡ kind + suc i = omega arith in
        ends (suc i) (omega arith) (before-first slot slots i none) permission (rw here at st)

    first_ends : slot.right ≡ Unstated → NoneFrom 0 slots → (permission : ℕ) → RightStands rest kind permission → ⊥
    first_ends e none permission st =
        let here : kind ≡ kind + 0 = omega arith in
        ends 0 (omega arith) (first-none slot slots e none) permission (subst (λ (k : ℕ). RightStands rest k permission) here st)
