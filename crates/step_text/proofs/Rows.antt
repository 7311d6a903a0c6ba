-- THE TABLE OF STEPS: a row's line, with numbers of at most ten digits and `by` where it can stand, is read as the row's kind with these
-- numbers, which are the row's action where they are in range, and with who acts; and no other line is read.
-- Assumes nothing.
use mathlib.Core.Path.{◌≡◌, refl, sym, ap, ap₂, ◌∙◌, subst, subst⁻¹}
use mathlib.Core.Bool.{Bool, true, false, cond, not, ◌&&◌, false≢true}
use mathlib.Core.List.{List, [], ◌∷◌, ◌++◌}
use mathlib.Core.Logic.{◌↔◌}
use Prim.Native.Nat.{ℕ, zero, suc, ◌+◌, ◌-◌, ◌≤◌, ◌<◌}
use native.Mathlib.Omega.{arith}
use lib.ListN.{length, take, drop, get_or, replicate}
use lib.Seq.{sets}
use lib.Dec.{eqb, ltb, leb}
use lib.IntN.{ℤ, pos, negsuc}
use borrow.Author.Tests.{eqb-true, eqb-false, ne_eqb, lt-ltb, le-ltb, ltb-true, ltb-false, le-leb, leb-true, not-true}
use Rattle.std.specs.Prelude.{Result, Ok, Err}
use Rattle.sets.proofs.Booleans.{both, both_true}
use Rattle.places.specs.Places.{on_grid}
use Rattle.steps.specs.declared.acting.Acting.{Acting}
use Rattle.steps.specs.declared.acting.Acting.TheVariants.{Nobody, InSession}
use Rattle.steps.specs.declared.actions.Action.{Action}
use Rattle.steps.specs.declared.actions.Action.TheVariants.{Malformed, Assign, Withdraw, Grant, Take, Open, Activate, Deactivate, Access, Finish, Close, Move, Lost, Clock, Lend, Recall}
use Rattle.steps.specs.Steps.{is_time, ranged, of_kind, acted_by, action_of}
use Rattle.steps.specs.declared.steps.Step.{Step}
use Rattle.forms.specs.Numbers.{digits_within, digits_of, signed_of, signed_value, signed_code, integer_text}
use Rattle.forms.specs.Kinds.{is_slot, kind_of, lookup}
use Rattle.forms.specs.Forms.{head, left, text_by, item_text, fill, fits_by, values_fit, values_in}
use Rattle.forms.specs.Tables.{bytes, lines_in, form_at, found, slot_count}
use Rattle.forms.proofs.Finding.{found-hits, found-written}
use Rattle.step_text.specs.Lines.{form_lines, step_forms, form_count, step_from, line_after, read_step}
use Rattle.step_text.specs.Rows.{Row, row_by, error_text, action_text, row_text, amount, ActionWritable, ActingWritable, Writable, HasActionNumbers, HasNumbers, ActionInRange, ActingInRange, RowInRange, ReadAs, StepStands}
use Rattle.step_text.specs.declared.lines.StepLine.{StepLine}
use Rattle.step_text.proofs.Stepping.{lines-right, forms-distinct, forms-counted, below}

-- ---- whole numbers: as a text, and as a value of a form

abbrev signed_fits : ℕ → Bool
signed_fits v = ltb v 20000000000 && not (eqb v 10000000000)

module _ (v : ℕ) (fits : signed_fits v ≡ true) where
  below-twice : v < 20000000000
  below-twice = ltb-true _ _ (both (ltb v 20000000000) (not (eqb v 10000000000)) fits).0

  not-minus-zero : v ≡ 10000000000 → ⊥
  not-minus-zero = eqb-false v 10000000000 (not-true _ (both (ltb v 20000000000) (not (eqb v 10000000000)) fits).1)

  record Held : Type 0 where
    text : signed_of v ≡ integer_text (signed_value v)
    short : amount (signed_value v) < 10000000000

  held : Held
  unfolding signed_of signed_value
  held = go (ltb v 10000000000) refl
    where
      go : (b : Bool) → ltb v 10000000000 ≡ b → Held
      go true e =
          let l = ltb-true v 10000000000 e in
          record { text = rw (e, le-ltb 10000000000 v (omega arith)); short = rw e l }
      go false e =
          let l = ltb-false v 10000000000 e in
          let n = not-minus-zero in
          let b = below-twice in
          let more : 10000000000 < v = below 10000000000 v l (λ q. n (sym q)) in
          let d : v - 10000000000 ≡ suc (v - 10000000001) = omega arith in
          record {
            text = rw (e, lt-ltb 10000000000 v more, lt-ltb v 20000000000 b, d);
            short = rw (e, lt-ltb v 20000000000 b, d) (omega arith);
          }

module _ where
  value-back : (z : ℤ) → amount z < 10000000000 → signed_value (signed_code z) ≡ z
  unfolding signed_value signed_code
  value-back (pos n) h = rw (lt-ltb n 10000000000 h)
  value-back (negsuc n) h =
      let e : 10000000001 + n - 10000000000 ≡ suc n = omega arith in
      rw (le-ltb (10000000001 + n) 10000000000 (omega arith), lt-ltb (10000000001 + n) 20000000000 (omega arith), e)

  code_fits : (z : ℤ) → amount z < 10000000000 → signed_fits (signed_code z) ≡ true
  unfolding signed_code
  code_fits (pos n) h = rw (lt-ltb n 20000000000 (omega arith), ne_eqb n 10000000000 (λ e. omega arith))
  code_fits (negsuc n) h = rw (lt-ltb (10000000001 + n) 20000000000 (omega arith), ne_eqb (10000000001 + n) 10000000000 (λ e. omega arith))

-- ---- the row of a step

abbrev actions : Step → List Action
actions step =
    Assign step.first step.second
    ∷ Withdraw step.first step.second
    ∷ Grant step.first step.second
    ∷ Take step.first step.second
    ∷ Open step.first step.second
    ∷ Activate step.first step.second
    ∷ Deactivate step.first step.second
    ∷ Access step.first step.second step.third
    ∷ Finish step.first
    ∷ Close step.first
    ∷ Move step.first (record { x = step.x; y = step.y; error = step.fourth })
    ∷ Lost step.first
    ∷ Clock step.first
    ∷ Lend step.first step.second step.third step.fourth
    ∷ Recall step.first step.second step.third
    ∷ []

abbrev row_of : Step → Row
row_of step = row_by step.by (get_or (actions step) step.kind Malformed)

only-action : (step : Step) (action : Action) → HasActionNumbers step action → (row_of step).action ≡ action
only-action step Malformed h = absurd h
only-action step (Assign u r) h = rw (h.0, h.1, h.2)
only-action step (Withdraw u r) h = rw (h.0, h.1, h.2)
only-action step (Grant r p) h = rw (h.0, h.1, h.2)
only-action step (Take r p) h = rw (h.0, h.1, h.2)
only-action step (Open s u) h = rw (h.0, h.1, h.2)
only-action step (Activate s r) h = rw (h.0, h.1, h.2)
only-action step (Deactivate s r) h = rw (h.0, h.1, h.2)
only-action step (Access s p o) h = rw (h.0, h.1, h.2, h.3)
only-action step (Finish o) h = rw (h.0, h.1)
only-action step (Close s) h = rw (h.0, h.1)
only-action step (Move s point) h = rw (h.0, h.1, h.2, h.3, h.4)
only-action step (Lost s) h = rw (h.0, h.1)
only-action step (Clock t) h = rw (h.0, h.1)
only-action step (Lend u v r t) h = rw (h.0, h.1, h.2, h.3, h.4)
only-action step (Recall u v r) h = rw (h.0, h.1, h.2, h.3)

-- a step has the numbers of one row alone
only_row : (step : Step) (row : Row) → HasNumbers step row → row_of step ≡ row
only_row step row h = ap₂ row_by h.by (only-action step row.action h.numbers)

pub one-row : (step : Step) (row other : Row) → HasNumbers step row → HasNumbers step other → row ≡ other
one-row step row other h k = sym (only_row step row h) ∙ only_row step other k

-- ---- a form with its values is a row's line

-- what is there for each number from k on, up to but not n
data Each (P : ℕ → Type 0) : ℕ → ℕ → Type 0 where
  each_none : {n : ℕ} → Each P n n
  each_one : (k : ℕ) {n : ℕ} → P k → Each P (suc k) n → Each P k n

each_at : {P : ℕ → Type 0} {k n : ℕ} → Each P k n → (j : ℕ) → k ≤ j → j < n → P j
each_at each_none j l h = absurd (omega arith)
each_at {P} (each_one k p later) j l h = go (eqb k j) refl (λ m. each_at later j m h)
  where
    go : (b : Bool) → eqb k j ≡ b → (suc k ≤ j → P j) → P j
    go true e next = subst P (eqb-true k j e) p
    go false e next = let m = below k j l (eqb-false k j e) in next (omega arith)

abbrev form_line : ℕ → List ℕ
form_line k = get_or form_lines k []

form-line : (k : ℕ) → form_at step_forms k ≡ form_line k
unfolding form_at
form-line k = ap (λ (lines : List (List ℕ)). get_or lines k []) lines-right

-- a move's error that is not 0 is written
error-some : (e : ℕ) → 0 < e → error_text e ≡ digits_of e ∷ []
error-some zero h = absurd (omega arith)
error-some (suc e) h = refl

abbrev positive_fits : ℕ → Bool
positive_fits v = ltb 0 v && ltb v 10000000000

-- form k of the table, as this line, with these values
record Says (form : List ℕ) (k : ℕ) (values : List ℕ) : Type 0 where
  text : fill form values ≡ row_text (row_of (step_from k values))
  writable : ActionWritable (row_of (step_from k values)).action
  acting : ActingWritable (row_of (step_from k values)).by (row_of (step_from k values)).action
  numbers : HasActionNumbers (step_from k values) (row_of (step_from k values)).action

one_of : (a : ℕ) (rest : Bool) → (ltb a 10000000000 && rest) ≡ true → (a < 10000000000) × (rest ≡ true)
one_of a rest h = let p = both (ltb a 10000000000) rest h in (ltb-true a 10000000000 p.0, p.1)

two-of : (a b : ℕ) → (ltb a 10000000000 && (ltb b 10000000000 && true)) ≡ true → (a < 10000000000) × (b < 10000000000)
two-of a b h = let p = one_of a (ltb b 10000000000 && true) h in (p.0, (one_of b true p.1).0)

three-of : (a b c : ℕ) → (ltb a 10000000000 && (ltb b 10000000000 && (ltb c 10000000000 && true))) ≡ true → (a < 10000000000) × (b < 10000000000) × (c < 10000000000)
three-of a b c h =
    let p = one_of a (ltb b 10000000000 && (ltb c 10000000000 && true)) h in
    let q = two-of b c p.1 in
    (p.0, q.0, q.1)

four-of : (a b c d : ℕ) → (ltb a 10000000000 && (ltb b 10000000000 && (ltb c 10000000000 && (ltb d 10000000000 && true)))) ≡ true
    → (a < 10000000000) × (b < 10000000000) × (c < 10000000000) × (d < 10000000000)
four-of a b c d h =
    let p = one_of a (ltb b 10000000000 && (ltb c 10000000000 && (ltb d 10000000000 && true))) h in
    let q = three-of b c d p.1 in
    (p.0, q.0, q.1, q.2)

module _ (a b c d e f : ℕ) where
  abbrev pub six : List ℕ
  six = a ∷ b ∷ c ∷ d ∷ e ∷ f ∷ []

  six-say : Each (λ k. values_fit (form_line k) six ≡ true → Says (form_line k) k six) 0 22
  unfolding form_lines row_text action_text fill item_text text_by values_fit fits_by is_slot kind_of lookup
  six-say =
      each_one 0 (λ h. record { text = refl; writable = two-of a b h; acting = tt; numbers = (refl, refl, refl) })
      (each_one 1 (λ h. record { text = refl; writable = two-of a b h; acting = tt; numbers = (refl, refl, refl) })
      (each_one 2 (λ h. record { text = refl; writable = two-of a b h; acting = tt; numbers = (refl, refl, refl) })
      (each_one 3 (λ h. record { text = refl; writable = two-of a b h; acting = tt; numbers = (refl, refl, refl) })
      (each_one 4 (λ h. record { text = refl; writable = two-of a b h; acting = tt; numbers = (refl, refl, refl) })
      (each_one 5 (λ h. record { text = refl; writable = two-of a b h; acting = tt; numbers = (refl, refl, refl) })
      (each_one 6 (λ h. record { text = refl; writable = two-of a b h; acting = tt; numbers = (refl, refl, refl) })
      (each_one 7 (λ h. record { text = refl; writable = three-of a b c h; acting = tt; numbers = (refl, refl, refl, refl) })
      (each_one 8 (λ h. record { text = refl; writable = (one_of a true h).0; acting = tt; numbers = (refl, refl) })
      (each_one 9 (λ h. record { text = refl; writable = (one_of a true h).0; acting = tt; numbers = (refl, refl) })
      (each_one 10 (λ h.
      let p = one_of a (signed_fits b && (signed_fits c && true)) h in
      let q = both (signed_fits b) (signed_fits c && true) p.1 in
      let r = both (signed_fits c) true q.1 in
      record {
        text = rw ((held b q.0).text, (held c r.0).text);
        writable = (p.0, (held b q.0).short, (held c r.0).short, omega arith);
        acting = tt;
        numbers = (refl, refl, refl, refl, refl);
      })
      (each_one 11 (λ h. record { text = refl; writable = (one_of a true h).0; acting = tt; numbers = (refl, refl) })
      (each_one 12 (λ h. record { text = refl; writable = (one_of a true h).0; acting = tt; numbers = (refl, refl) })
      (each_one 13 (λ h. record { text = refl; writable = four-of a b c d h; acting = tt; numbers = (refl, refl, refl, refl, refl) })
      (each_one 14 (λ h. record { text = refl; writable = three-of a b c h; acting = tt; numbers = (refl, refl, refl, refl) })
      (each_one 15 (λ h.
      let p = one_of a (signed_fits b && (signed_fits c && (positive_fits d && true))) h in
      let q = both (signed_fits b) (signed_fits c && (positive_fits d && true)) p.1 in
      let r = both (signed_fits c) (positive_fits d && true) q.1 in
      let m = both (ltb 0 d) (ltb d 10000000000) (both (positive_fits d) true r.1).0 in
      record {
        text = rw ((held b q.0).text, (held c r.0).text, error-some d (ltb-true 0 d m.0));
        writable = (p.0, (held b q.0).short, (held c r.0).short, ltb-true d 10000000000 m.1);
        acting = tt;
        numbers = (refl, refl, refl, refl, refl);
      })
      (each_one 16 (λ h. let p = three-of a b c h in record { text = refl; writable = (p.1, p.2); acting = (p.0, refl); numbers = (refl, refl, refl) })
      (each_one 17 (λ h. let p = three-of a b c h in record { text = refl; writable = (p.1, p.2); acting = (p.0, refl); numbers = (refl, refl, refl) })
      (each_one 18 (λ h. let p = three-of a b c h in record { text = refl; writable = (p.1, p.2); acting = (p.0, refl); numbers = (refl, refl, refl) })
      (each_one 19 (λ h. let p = three-of a b c h in record { text = refl; writable = (p.1, p.2); acting = (p.0, refl); numbers = (refl, refl, refl) })
      (each_one 20 (λ h.
      let p = one_of a (ltb b 10000000000 && (ltb c 10000000000 && (ltb d 10000000000 && (ltb e 10000000000 && true)))) h in
      record { text = refl; writable = four-of b c d e p.1; acting = (p.0, refl); numbers = (refl, refl, refl, refl, refl) })
      (each_one 21 (λ h. let p = four-of a b c d h in record { text = refl; writable = (p.1, p.2, p.3); acting = (p.0, refl); numbers = (refl, refl, refl, refl) })
      each_none)))))))))))))))))))))

six-of : (v : List ℕ) → length v ≡ 6 → v ≡ six (get_or v 0 0) (get_or v 1 0) (get_or v 2 0) (get_or v 3 0) (get_or v 4 0) (get_or v 5 0)
six-of [] h = absurd (omega arith)
six-of (a ∷ []) h = absurd (omega arith)
six-of (a ∷ b ∷ []) h = absurd (omega arith)
six-of (a ∷ b ∷ c ∷ []) h = absurd (omega arith)
six-of (a ∷ b ∷ c ∷ d ∷ []) h = absurd (omega arith)
six-of (a ∷ b ∷ c ∷ d ∷ e ∷ []) h = absurd (omega arith)
six-of (a ∷ b ∷ c ∷ d ∷ e ∷ f ∷ []) h = refl
six-of (a ∷ b ∷ c ∷ d ∷ e ∷ f ∷ g ∷ l) h = absurd (omega arith)

values-say : (k : ℕ) (v : List ℕ) → k < 22 → length v ≡ 6 → values_fit (form_at step_forms k) v ≡ true → Says (form_at step_forms k) k v
values-say k v l s =
    subst⁻¹ (λ (form : List ℕ). values_fit form v ≡ true → Says form k v) (form-line k)
    (subst⁻¹ (λ (values : List ℕ). values_fit (form_line k) values ≡ true → Says (form_line k) k values) (six-of v s)
    (each_at (six-say (get_or v 0 0) (get_or v 1 0) (get_or v 2 0) (get_or v 3 0) (get_or v 4 0) (get_or v 5 0)) k (omega arith) l))

-- ---- and each row's line is a form with values

-- 2026-04: a move whose error is 0 has it left out
abbrev pub move_form : ℕ → ℕ
move_form zero = 10
move_form (suc e) = 15

abbrev pub form_without_by : Action → ℕ
form_without_by Malformed = 22
form_without_by (Assign u r) = 0
form_without_by (Withdraw u r) = 1
form_without_by (Grant r p) = 2
form_without_by (Take r p) = 3
form_without_by (Open s u) = 4
form_without_by (Activate s r) = 5
form_without_by (Deactivate s r) = 6
form_without_by (Access s p o) = 7
form_without_by (Finish o) = 8
form_without_by (Close s) = 9
form_without_by (Move s point) = move_form point.error
form_without_by (Lost s) = 11
form_without_by (Clock t) = 12
form_without_by (Lend u v r t) = 13
form_without_by (Recall u v r) = 14

-- 2026-05: the six kinds that stand behind `by`
abbrev pub form_behind_by : Action → ℕ
form_behind_by action = get_or (16 ∷ 17 ∷ 18 ∷ 19 ∷ 22 ∷ 22 ∷ 22 ∷ 22 ∷ 22 ∷ 22 ∷ 22 ∷ 22 ∷ 22 ∷ 20 ∷ 21 ∷ []) (form_without_by action) 22

abbrev pub form_by : Acting → Action → ℕ
form_by Nobody action = form_without_by action
form_by (InSession s) action = form_behind_by action

abbrev pub form_of : Row → ℕ
form_of row = form_by row.by row.action

abbrev pub numbers_of : Action → List ℕ
numbers_of Malformed = []
numbers_of (Assign u r) = u ∷ r ∷ 0 ∷ 0 ∷ []
numbers_of (Withdraw u r) = u ∷ r ∷ 0 ∷ 0 ∷ []
numbers_of (Grant r p) = r ∷ p ∷ 0 ∷ 0 ∷ []
numbers_of (Take r p) = r ∷ p ∷ 0 ∷ 0 ∷ []
numbers_of (Open s u) = s ∷ u ∷ 0 ∷ 0 ∷ []
numbers_of (Activate s r) = s ∷ r ∷ 0 ∷ 0 ∷ []
numbers_of (Deactivate s r) = s ∷ r ∷ 0 ∷ 0 ∷ []
numbers_of (Access s p o) = s ∷ p ∷ o ∷ 0 ∷ []
numbers_of (Finish o) = o ∷ 0 ∷ 0 ∷ 0 ∷ []
numbers_of (Close s) = s ∷ 0 ∷ 0 ∷ 0 ∷ []
numbers_of (Move s point) = s ∷ signed_code point.x ∷ signed_code point.y ∷ point.error ∷ []
numbers_of (Lost s) = s ∷ 0 ∷ 0 ∷ 0 ∷ []
numbers_of (Clock t) = t ∷ 0 ∷ 0 ∷ 0 ∷ []
numbers_of (Lend u v r t) = u ∷ v ∷ r ∷ t ∷ []
numbers_of (Recall u v r) = u ∷ v ∷ r ∷ 0 ∷ []

abbrev pub values_by : Acting → Action → List ℕ
values_by Nobody action = numbers_of action ++ (0 ∷ 0 ∷ [])
values_by (InSession s) action = s ∷ (numbers_of action ++ (0 ∷ []))

abbrev pub values_of : Row → List ℕ
values_of row = values_by row.by row.action

-- the form is there, the values fit and are read back, and they say the row
record FormOf (form : List ℕ) (row : Row) : Type 0 where
  there : form_of row < 22
  six_values : length (values_of row) ≡ 6
  fits : values_fit form (values_of row) ≡ true
  back : sets (replicate 6 0) 0 (take (slot_count form) (values_of row)) ≡ values_of row
  same : row_of (step_from (form_of row) (values_of row)) ≡ row

module _ (a b : ℕ) where
  one-fits : a < 10000000000 → (ltb a 10000000000 && true) ≡ true
  one-fits h = rw (lt-ltb a 10000000000 h)

  two-fit : a < 10000000000 → b < 10000000000 → (ltb a 10000000000 && (ltb b 10000000000 && true)) ≡ true
  two-fit h k = rw (lt-ltb a 10000000000 h, lt-ltb b 10000000000 k)

  three-fit : (c : ℕ) → a < 10000000000 → b < 10000000000 → c < 10000000000 → (ltb a 10000000000 && (ltb b 10000000000 && (ltb c 10000000000 && true))) ≡ true
  three-fit c h k l = rw (lt-ltb a 10000000000 h, lt-ltb b 10000000000 k, lt-ltb c 10000000000 l)

form-without-by : (action : Action) → ActionWritable action → FormOf (form_line (form_without_by action)) (row_by Nobody action)
unfolding form_lines values_fit fits_by is_slot kind_of lookup
form-without-by Malformed w = absurd w
form-without-by (Assign u r) w = record { there = omega arith; six_values = refl; fits = two-fit u r w.0 w.1; back = refl; same = refl }
form-without-by (Withdraw u r) w = record { there = omega arith; six_values = refl; fits = two-fit u r w.0 w.1; back = refl; same = refl }
form-without-by (Grant r p) w = record { there = omega arith; six_values = refl; fits = two-fit r p w.0 w.1; back = refl; same = refl }
form-without-by (Take r p) w = record { there = omega arith; six_values = refl; fits = two-fit r p w.0 w.1; back = refl; same = refl }
form-without-by (Open s u) w = record { there = omega arith; six_values = refl; fits = two-fit s u w.0 w.1; back = refl; same = refl }
form-without-by (Activate s r) w = record { there = omega arith; six_values = refl; fits = two-fit s r w.0 w.1; back = refl; same = refl }
form-without-by (Deactivate s r) w = record { there = omega arith; six_values = refl; fits = two-fit s r w.0 w.1; back = refl; same = refl }
form-without-by (Access s p o) w = record { there = omega arith; six_values = refl; fits = three-fit s p o w.0 w.1 w.2; back = refl; same = refl }
form-without-by (Finish o) w = record { there = omega arith; six_values = refl; fits = one-fits o 0 w; back = refl; same = refl }
form-without-by (Close s) w = record { there = omega arith; six_values = refl; fits = one-fits s 0 w; back = refl; same = refl }
form-without-by (Move s point) w = go point.error refl
  where
    go : (e : ℕ) → point.error ≡ e → FormOf (form_line (move_form point.error)) (row_by Nobody (Move s point))
    go zero left_out =
        record {
          there = rw left_out (omega arith);
          six_values = refl;
          fits = rw (left_out, lt-ltb s 10000000000 w.0, code_fits point.x w.1, code_fits point.y w.2);
          back = rw left_out;
          same = rw (left_out, value-back point.x w.1, value-back point.y w.2);
        }
    go (suc e) written_out =
        record {
          there = rw written_out (omega arith);
          six_values = refl;
          fits = rw (written_out, lt-ltb s 10000000000 w.0, code_fits point.x w.1, code_fits point.y w.2, lt-ltb 0 (suc e) (omega arith), lt-ltb (suc e) 10000000000 (rw written_out at w.3));
          back = rw written_out;
          same = rw (written_out, value-back point.x w.1, value-back point.y w.2);
        }
form-without-by (Lost s) w = record { there = omega arith; six_values = refl; fits = one-fits s 0 w; back = refl; same = refl }
form-without-by (Clock t) w = record { there = omega arith; six_values = refl; fits = one-fits t 0 w; back = refl; same = refl }
form-without-by (Lend u v r t) w =
    record { there = omega arith; six_values = refl; fits = rw (lt-ltb u 10000000000 w.0) (three-fit v r t w.1 w.2 w.3); back = refl; same = refl }
form-without-by (Recall u v r) w = record { there = omega arith; six_values = refl; fits = three-fit u v r w.0 w.1 w.2; back = refl; same = refl }

form-behind-by : (s : ℕ) (action : Action) → ActionWritable action → ActingWritable (InSession s) action → FormOf (form_line (form_behind_by action)) (row_by (InSession s) action)
unfolding form_lines values_fit fits_by is_slot kind_of lookup
form-behind-by s Malformed w a = absurd w
form-behind-by s (Assign u r) w a = record { there = omega arith; six_values = refl; fits = three-fit s u r a.0 w.0 w.1; back = refl; same = refl }
form-behind-by s (Withdraw u r) w a = record { there = omega arith; six_values = refl; fits = three-fit s u r a.0 w.0 w.1; back = refl; same = refl }
form-behind-by s (Grant r p) w a = record { there = omega arith; six_values = refl; fits = three-fit s r p a.0 w.0 w.1; back = refl; same = refl }
form-behind-by s (Take r p) w a = record { there = omega arith; six_values = refl; fits = three-fit s r p a.0 w.0 w.1; back = refl; same = refl }
form-behind-by s (Open i u) w a = absurd (false≢true a.1)
form-behind-by s (Activate i r) w a = absurd (false≢true a.1)
form-behind-by s (Deactivate i r) w a = absurd (false≢true a.1)
form-behind-by s (Access i p o) w a = absurd (false≢true a.1)
form-behind-by s (Finish o) w a = absurd (false≢true a.1)
form-behind-by s (Close i) w a = absurd (false≢true a.1)
form-behind-by s (Move i point) w a = absurd (false≢true a.1)
form-behind-by s (Lost i) w a = absurd (false≢true a.1)
form-behind-by s (Clock t) w a = absurd (false≢true a.1)
form-behind-by s (Lend u v r t) w a =
    record {
      there = omega arith;
      six_values = refl;
      fits = rw (lt-ltb s 10000000000 a.0, lt-ltb u 10000000000 w.0) (three-fit v r t w.1 w.2 w.3);
      back = refl;
      same = refl;
    }
form-behind-by s (Recall u v r) w a =
    record { there = omega arith; six_values = refl; fits = rw (lt-ltb s 10000000000 a.0) (three-fit u v r w.0 w.1 w.2); back = refl; same = refl }

form-of : (row : Row) → Writable row → FormOf (form_at step_forms (form_of row)) row
form-of row w = subst⁻¹ (λ (form : List ℕ). FormOf form row) (form-line (form_of row)) (go row.by w.acting)
  where
    go : (by : Acting) → ActingWritable by row.action → FormOf (form_line (form_by by row.action)) (row_by by row.action)
    go Nobody a = form-without-by row.action w.numbers
    go (InSession s) a = form-behind-by s row.action w.numbers a

-- ---- ranges

grid : (z : ℤ) → (on_grid z ≡ true) ↔ (amount z ≤ 1000000)
grid (pos n) = (λ h. leb-true n 1000000 h, λ h. le-leb n 1000000 h)
grid (negsuc n) = (λ h. leb-true (suc n) 1000000 h, λ h. le-leb (suc n) 1000000 h)

below_one : (a k : ℕ) → (ltb a (suc k) ≡ true) ↔ (a ≤ k)
below_one a k = (λ h. let l = ltb-true a (suc k) h in omega arith, λ h. lt-ltb a (suc k) (omega arith))

below_two : (a b k l : ℕ) → ((ltb a (suc k) && ltb b (suc l)) ≡ true) ↔ ((a ≤ k) × (b ≤ l))
below_two a b k l = (
  λ h. let p = both (ltb a (suc k)) (ltb b (suc l)) h in ((below_one a k).0 p.0, (below_one b l).0 p.1),
  λ h. both_true (ltb a (suc k)) (ltb b (suc l)) ((below_one a k).1 h.0) ((below_one b l).1 h.1),
)

below-three : (a b c k l m : ℕ) → ((ltb a (suc k) && (ltb b (suc l) && ltb c (suc m))) ≡ true) ↔ ((a ≤ k) × (b ≤ l) × (c ≤ m))
below-three a b c k l m = (
  λ h.
      let p = both (ltb a (suc k)) (ltb b (suc l) && ltb c (suc m)) h in
      let q = (below_two b c l m).0 p.1 in
      ((below_one a k).0 p.0, q.0, q.1),
  λ h. both_true (ltb a (suc k)) (ltb b (suc l) && ltb c (suc m)) ((below_one a k).1 h.0) ((below_two b c l m).1 (h.1, h.2)),
)

-- the range of an action's numbers as the test of its kind
abbrev in_range : Action → Bool
in_range Malformed = false
in_range (Assign u r) = ltb u 64 && ltb r 32
in_range (Withdraw u r) = ltb u 64 && ltb r 32
in_range (Grant r p) = ltb r 32 && ltb p 32
in_range (Take r p) = ltb r 32 && ltb p 32
in_range (Open s u) = ltb s 32 && ltb u 64
in_range (Activate s r) = ltb s 32 && ltb r 32
in_range (Deactivate s r) = ltb s 32 && ltb r 32
in_range (Access s p o) = ltb s 32 && (ltb p 32 && ltb o 32)
in_range (Finish o) = ltb o 32
in_range (Close s) = ltb s 32
in_range (Move s point) = ltb s 32 && ((on_grid point.x && on_grid point.y) && leb point.error 1000)
in_range (Lost s) = ltb s 32
in_range (Clock t) = is_time t
in_range (Lend u v r t) = ltb u 64 && (ltb v 64 && (ltb r 32 && is_time t))
in_range (Recall u v r) = ltb u 64 && (ltb v 64 && ltb r 32)

range-test : (action : Action) → (in_range action ≡ true) ↔ ActionInRange action
range-test Malformed = (λ h. absurd (false≢true h), λ h. absurd h)
range-test (Assign u r) = below_two u r 63 31
range-test (Withdraw u r) = below_two u r 63 31
range-test (Grant r p) = below_two r p 31 31
range-test (Take r p) = below_two r p 31 31
range-test (Open s u) = below_two s u 31 63
range-test (Activate s r) = below_two s r 31 31
range-test (Deactivate s r) = below_two s r 31 31
range-test (Access s p o) = below-three s p o 31 31 31
range-test (Finish o) = below_one o 31
range-test (Close s) = below_one s 31
range-test (Move s point) = (
  λ h.
      let p = both (ltb s 32) ((on_grid point.x && on_grid point.y) && leb point.error 1000) h in
      let q = both (on_grid point.x && on_grid point.y) (leb point.error 1000) p.1 in
      let r = both (on_grid point.x) (on_grid point.y) q.0 in
      ((below_one s 31).0 p.0, (grid point.x).0 r.0, (grid point.y).0 r.1, leb-true point.error 1000 q.1),
  λ h.
      let on = both_true (on_grid point.x) (on_grid point.y) ((grid point.x).1 h.1) ((grid point.y).1 h.2) in
      both_true (ltb s 32) ((on_grid point.x && on_grid point.y) && leb point.error 1000) ((below_one s 31).1 h.0)
      (both_true (on_grid point.x && on_grid point.y) (leb point.error 1000) on (le-leb point.error 1000 h.3)),
)
range-test (Lost s) = below_one s 31
range-test (Clock t) = (λ h. leb-true t 3155759999 h, λ h. le-leb t 3155759999 h)
range-test (Lend u v r t) = (
  λ h.
      let p = both (ltb u 64) (ltb v 64 && (ltb r 32 && is_time t)) h in
      let q = both (ltb v 64) (ltb r 32 && is_time t) p.1 in
      let m = both (ltb r 32) (is_time t) q.1 in
      ((below_one u 63).0 p.0, (below_one v 63).0 q.0, (below_one r 31).0 m.0, leb-true t 3155759999 m.1),
  λ h.
      both_true (ltb u 64) (ltb v 64 && (ltb r 32 && is_time t)) ((below_one u 63).1 h.0)
      (both_true (ltb v 64) (ltb r 32 && is_time t) ((below_one v 63).1 h.1)
      (both_true (ltb r 32) (is_time t) ((below_one r 31).1 h.2) (le-leb t 3155759999 h.3))),
)
range-test (Recall u v r) = below-three u v r 63 63 31

kind-read : (step : Step) (action : Action) → HasActionNumbers step action → of_kind step ≡ ranged (in_range action) action
unfolding of_kind
kind-read step Malformed h = absurd h
kind-read step (Assign u r) h = rw (h.0, h.1, h.2)
kind-read step (Withdraw u r) h = rw (h.0, h.1, h.2)
kind-read step (Grant r p) h = rw (h.0, h.1, h.2)
kind-read step (Take r p) h = rw (h.0, h.1, h.2)
kind-read step (Open s u) h = rw (h.0, h.1, h.2)
kind-read step (Activate s r) h = rw (h.0, h.1, h.2)
kind-read step (Deactivate s r) h = rw (h.0, h.1, h.2)
kind-read step (Access s p o) h = rw (h.0, h.1, h.2, h.3)
kind-read step (Finish o) h = rw (h.0, h.1)
kind-read step (Close s) h = rw (h.0, h.1)
kind-read step (Move s point) h = rw (h.0, h.1, h.2, h.3, h.4)
kind-read step (Lost s) h = rw (h.0, h.1)
kind-read step (Clock t) h = rw (h.0, h.1)
kind-read step (Lend u v r t) h = rw (h.0, h.1, h.2, h.3, h.4)
kind-read step (Recall u v r) h = rw (h.0, h.1, h.2, h.3)

-- 2026-05: the same of who acts
abbrev acting_in_range : Acting → Bool
acting_in_range Nobody = true
acting_in_range (InSession s) = ltb s 32

acting-test : (by : Acting) → (acting_in_range by ≡ true) ↔ ActingInRange by
acting-test Nobody = (λ h. tt, λ h. refl)
acting-test (InSession s) = below_one s 31

acted-read : (by : Acting) (action : Action) → ActingWritable by action → (inside : Bool) → acted_by by (ranged inside action) ≡ ranged (inside && acting_in_range by) action
acted-read Nobody action a true = refl
acted-read Nobody action a false = refl
acted-read (InSession s) action a true = ap (λ (b : Bool). ranged (ltb s 32 && b) action) a.1 ∙ go (ltb s 32)
  where
    go : (b : Bool) → ranged (b && true) action ≡ ranged b action
    go true = refl
    go false = refl
acted-read (InSession s) action a false = go (ltb s 32)
  where
    go : (b : Bool) → ranged (b && false) Malformed ≡ Malformed
    go true = refl
    go false = refl

module _ (step : Step) (row : Row) (h : HasNumbers step row) (w : Writable row) where
  abbrev row_in_range : Bool
  row_in_range = in_range row.action && acting_in_range row.by

  range-means : (row_in_range ≡ true) ↔ RowInRange row
  range-means = (
    λ t. let p = both (in_range row.action) (acting_in_range row.by) t in ((range-test row.action).0 p.0, (acting-test row.by).0 p.1),
    λ r. both_true (in_range row.action) (acting_in_range row.by) ((range-test row.action).1 r.0) ((acting-test row.by).1 r.1),
  )

  row-action : (b : Bool) → row_in_range ≡ b → action_of step ≡ ranged b row.action
  unfolding action_of
  row-action b e =
      ap₂ acted_by h.by (kind-read step row.action h.numbers)
      ∙ acted-read row.by row.action w.acting (in_range row.action)
      ∙ ap (λ (c : Bool). ranged c row.action) e

  acts : RowInRange row → action_of step ≡ row.action
  acts inside = row-action true (range-means.1 inside)

  is-malformed : (RowInRange row → ⊥) → action_of step ≡ Malformed
  is-malformed outside = go row_in_range refl
    where
      go : (b : Bool) → row_in_range ≡ b → action_of step ≡ Malformed
      go true e = absurd (outside (range-means.0 e))
      go false e = row-action false e

-- ---- the theorem

abbrev pub line_from : ℕ → List ℕ → ℕ → StepLine
line_from form values size = record { step = step_from form values; length = size }

-- what was found is a row's line
good-row : (text : List ℕ) (line : StepLine) → read_step text ≡ Ok line → StepStands text (row_of line.step) × HasNumbers line.step (row_of line.step)
unfolding read_step line_after
good-row text line good = go (eqb (found step_forms text).form form_count) refl good
  where
    go : (b : Bool) → eqb (found step_forms text).form form_count ≡ b
        → cond {A = Result StepLine ℕ} b (Err 10) (Ok (line_from (found step_forms text).form (found step_forms text).values (found step_forms text).length)) ≡ Ok line
        → StepStands text (row_of line.step) × HasNumbers line.step (row_of line.step)
    go true e h = let none : ◌≡◌ {A = ℕ} 0 1 = cc in absurd (omega arith)
    go false e h =
        let hits = found-hits step_forms text forms-distinct in
        let less = below (found step_forms text).form (length (lines_in step_forms)) hits.most (λ q. eqb-false (found step_forms text).form form_count e (q ∙ forms-counted)) in
        let says = values-say (found step_forms text).form (found step_forms text).values (omega (arith, forms-counted)) hits.six (hits.fit less) in
        let same : line_from (found step_forms text).form (found step_forms text).values (found step_forms text).length ≡ line = cc in
        subst (λ (l : StepLine). StepStands text (row_of l.step) × HasNumbers l.step (row_of l.step)) same (
          record { writable = record { numbers = says.writable; acting = says.acting }; rest = drop (found step_forms text).length text; reads = hits.text less ∙ ap (λ (t : List ℕ). t ++ drop (found step_forms text).length text) says.text },
          record { numbers = says.numbers; by = refl },
        )

after-found : (form : ℕ) (values : List ℕ) (size : ℕ) → form < 22 → line_after (record { form = form; values = values; length = size }) ≡ Ok (line_from form values size)
unfolding line_after
after-found form values size h = rw (ne_eqb form form_count (λ e. omega arith))

-- the values that stand in a form are its first ones
values-in : (form values : List ℕ) → slot_count form ≤ length values → values_in form values ≡ take (slot_count form) values
unfolding values_in
values-in [] values h = refl
values-in (byte ∷ form) values h = go (is_slot byte) values h (λ others few. values-in form others few)
  where
    go : (b : Bool) (vs : List ℕ) → cond b (suc (slot_count form)) (slot_count form) ≤ length vs
        → ((others : List ℕ) → slot_count form ≤ length others → values_in form others ≡ take (slot_count form) others)
        → cond b (head vs ∷ values_in form (left b vs)) (values_in form (left b vs)) ≡ take (cond b (suc (slot_count form)) (slot_count form)) vs
    go false vs few ih = ih vs few
    go true [] few ih = absurd (omega arith)
    go true (v ∷ vs) few ih = ap (λ (l : List ℕ). v ∷ l) (ih vs (omega arith))

abbrev all_few : List (List ℕ) → Bool
all_few [] = true
all_few (form ∷ forms) = leb (slot_count form) 6 && all_few forms

few-at : (forms : List (List ℕ)) (k : ℕ) → all_few forms ≡ true → slot_count (get_or forms k []) ≤ 6
few-at [] k e = omega arith
few-at (form ∷ forms) zero e = leb-true (slot_count form) 6 (both (leb (slot_count form) 6) (all_few forms) e).0
few-at (form ∷ forms) (suc k) e = few-at forms k (both (leb (slot_count form) 6) (all_few forms) e).1

few-slots : (k : ℕ) → slot_count (form_line k) ≤ 6
unfolding form_lines is_slot kind_of lookup
few-slots k = few-at form_lines k refl

-- a row's line is read, whatever follows it
pub row_read : (row : Row) (rest : List ℕ) → Writable row
    → read_step (row_text row ++ rest) ≡ Ok (line_from (form_of row) (values_of row) (length (row_text row)))
unfolding read_step
row_read row rest w =
    let form = form-of row w in
    let says = values-say (form_of row) (values_of row) form.there form.six_values form.fits in
    let text : fill (form_at step_forms (form_of row)) (values_of row) ≡ row_text row = says.text ∙ ap row_text form.same in
    let few : slot_count (form_at step_forms (form_of row)) ≤ length (values_of row) = omega (arith, ap slot_count (form-line (form_of row)), few-slots (form_of row), form.six_values) in
    ap (λ (t : List ℕ). line_after (found step_forms (t ++ rest))) (sym text)
    ∙ ap line_after (found-written step_forms (form_of row) (values_of row) rest forms-distinct (omega (arith, form.there, forms-counted)) form.fits)
    ∙ rw (values-in (form_at step_forms (form_of row)) (values_of row) few, form.back, text) (after-found (form_of row) (values_of row) (length (row_text row)) form.there)

-- the row's line is the front of the text exactly where it is read as the row
pub step_line : (text : List ℕ) (row : Row) → ReadAs text row ↔ StepStands text row
step_line text row = (stands, read)
  where
    stands : ReadAs text row → StepStands text row
    stands r = subst (StepStands text) (only_row r.line.step row r.numbers) (good-row text r.line r.read).0

    read : StepStands text row → ReadAs text row
    read st =
        let form = form-of row st.writable in
        let says = values-say (form_of row) (values_of row) form.there form.six_values form.fits in
        let numbers : HasNumbers (step_from (form_of row) (values_of row)) row = subst (HasNumbers (step_from (form_of row) (values_of row))) form.same (record { numbers = says.numbers; by = refl }) in
        record {
          line = line_from (form_of row) (values_of row) (length (row_text row));
          read = ap read_step st.reads ∙ row_read row st.rest st.writable;
          size = refl;
          numbers = numbers;
          inside = acts (step_from (form_of row) (values_of row)) row numbers st.writable;
          outside = is-malformed (step_from (form_of row) (values_of row)) row numbers st.writable;
        }

-- and no line is read that is not a row's
pub every-line : (text : List ℕ) (line : StepLine) → read_step text ≡ Ok line
    → (row : Row) × (StepStands text row) × (HasNumbers line.step row) × (line.length ≡ length (row_text row))
every-line text line good =
    let there = good-row text line good in
    let read = (step_line text (row_of line.step)).1 there.0 in
    let whole : Ok read.line ≡ Ok line = sym read.read ∙ good in
    let same : read.line ≡ line = cc in
    (row_of line.step, there.0, there.1, ap (λ (l : StepLine). l.length) (sym same) ∙ read.size)

-- 2026-05: "Steps are written `(by 4 (assign 5 2))`"
pub by_read : (rest : List ℕ) → ReadAs (bytes "(by 4 (assign 5 2))\n" ++ rest) (row_by (InSession 4) (Assign 5 2))
unfolding row_text action_text digits_of digits_within
by_read rest =
    (step_line (bytes "(by 4 (assign 5 2))\n" ++ rest) (row_by (InSession 4) (Assign 5 2))).1
    (record { writable = record { numbers = (omega arith, omega arith); acting = (omega arith, refl) }; rest = rest; reads = refl })
