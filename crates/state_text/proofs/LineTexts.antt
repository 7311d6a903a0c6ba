-- One line of a saved text, both ways: a line in range is read again whatever follows it, and what is read stands there.
-- Assumes nothing.
use mathlib.Core.Path.{◌≡◌, refl, sym, ap, ◌∙◌, subst}
use mathlib.Core.Bool.{Bool, true, false, cond}
use mathlib.Core.Logic.{◌⊎◌, inl, inr}
use mathlib.Core.List.{List, ◌++◌}
use Prim.Native.Nat.{ℕ, ◌≤◌, ◌<◌}
use native.Mathlib.Omega.{arith}
use lib.Dec.{ltb}
use lib.ListN.{length, drop, replicate}
use lib.Seq.{sets}
use borrow.Author.Tests.{ltb-true, ltb-false, lt-ltb, le-ltb}
use Rattle.std.specs.Prelude.{Result, Ok, Err}
use Rattle.forms.specs.Forms.{fill, all_in_range, values_in, values_fit}
use Rattle.forms.specs.Tables.{lines_in, form_at, found}
use Rattle.forms.specs.declared.tables.Found.{Found}
use Rattle.state_text.specs.Entries.{saved_forms, entry_of, form_of, values_of, line_text}
use Rattle.state_text.specs.Reading.{line_after, read_line}
use Rattle.state_text.specs.Causes.{Ranged, OutOfRange}
use Rattle.forms.specs.Refusals.{numbered}
use Rattle.state_text.specs.Refusals.{line_number}
use Rattle.state_text.specs.declared.causes.LineRefusal.{LineRefusal}
use Rattle.state_text.specs.declared.entries.Entry.{Entry}
use Rattle.state_text.specs.declared.reading.Parsed.{Parsed}
use Rattle.forms.proofs.Finding.{Hits, found-hits, found-written, found_none}
use Rattle.forms.proofs.Marks.{range-fits}
use Rattle.state_text.proofs.Rows.{unequal}
use Rattle.state_text.proofs.Values.{forms-distinct, nine-forms, form_small, ranged-values, values-back, entry-back, values-say}

below_all : (k : ℕ) → k < 9 → k < length (lines_in saved_forms)
below_all k h = omega (arith, nine-forms)

-- ---- a form with values that a text can hold is found

module _ (k : ℕ) (v more : List ℕ) (l : k < 9) (fit : values_fit (form_at saved_forms k) v ≡ true) where
  form-found : read_line (fill (form_at saved_forms k) v ++ more) ≡
      line_after (record { form = k; values = sets (replicate 6 0) 0 (values_in (form_at saved_forms k) v); length = length (fill (form_at saved_forms k) v) })
  unfolding read_line
  form-found = ap line_after (found-written saved_forms k v more forms-distinct (below_all k l) fit)

pub line-fits : (e : Entry) → Ranged e → values_fit (form_at saved_forms (form_of e)) (values_of e) ≡ true
line-fits e h = range-fits (form_at saved_forms (form_of e)) (values_of e) (ranged-values e h)

pub read-line : (e : Entry) (more : List ℕ) → Ranged e → read_line (line_text e ++ more) ≡ Ok (record { entry = e; length = length (line_text e) })
unfolding line_text line_after
read-line e more h =
    form-found (form_of e) (values_of e) more (form_small e) (line-fits e h)
    ∙ rw (values-back e, lt-ltb (form_of e) 9 (form_small e), ranged-values e h, entry-back e h)

-- ---- as the code reads a line

module _ (text : List ℕ) (f : Found) (e : f ≡ found saved_forms text) where
  pub line-none : 9 ≤ f.form → Err 10 ≡ read_line text
  unfolding read_line line_after
  line-none h = rw (← e, le-ltb f.form 9 h)

  pub line-outside : f.form < 9 → all_in_range (form_at saved_forms f.form) f.values ≡ false → Err 11 ≡ read_line text
  unfolding read_line line_after
  line-outside h q = rw (← e, lt-ltb f.form 9 h, q)

  pub line-good : f.form < 9 → all_in_range (form_at saved_forms f.form) f.values ≡ true → (x : Entry) → x ≡ entry_of f.form f.values → Ok (record { entry = x; length = f.length }) ≡ read_line text
  unfolding read_line line_after
  line-good h q x g = rw (← e, lt-ltb f.form 9 h, q, g)

-- ---- what is read stands there

abbrev pub NoFormAt : List ℕ → Type 0
NoFormAt text = (form : ℕ) (values more : List ℕ) → form < 9 → values_fit (form_at saved_forms form) values ≡ true → text ≡ fill (form_at saved_forms form) values ++ more → ⊥

pub record GoodLine (text : List ℕ) (p : Parsed) : Type 0 where
  pub is_line : text ≡ line_text p.entry ++ drop p.length text
  pub ranged : Ranged p.entry
  pub within : p.length ≤ length text

-- what an answer says of the text
abbrev pub Answers : List ℕ → Result Parsed ℕ → Type 0
Answers text (Ok p) = GoodLine text p
Answers text (Err number) = ((number ≡ 10) × NoFormAt text) ⊎ ((number ≡ 11) × OutOfRange text)

good-or-bad : {number : ℕ} {p : Parsed} → Err number ≡ Ok p → ⊥
good-or-bad h = unequal cc

found-answers : (text : List ℕ) (f : Found) → f ≡ found saved_forms text → Hits saved_forms text f → (x : Bool) → ltb f.form 9 ≡ x → (y : Bool) → all_in_range (form_at saved_forms f.form) f.values ≡ y →
    Answers text (cond x (cond y (Ok (record { entry = entry_of f.form f.values; length = f.length })) (Err 11)) (Err 10))
found-answers text f e hits false p y q =
    inl (
      refl,
      λ form values more l. found_none saved_forms text forms-distinct
          (sym (ap (λ (x : Found). x.form) e) ∙ (let m = ltb-false f.form 9 p in omega (arith, hits.most, nine-forms))) form values more (below_all form l),
    )
found-answers text f e hits true p true q =
    let l = ltb-true f.form 9 p in
    let says = values-say f.form f.values l hits.six q in
    record { is_line = rw says.text (hits.text (below_all f.form l)); ranged = says.ranged; within = hits.short }
found-answers text f e hits true p false q =
    let l = ltb-true f.form 9 p in
    inr (
      refl,
      record {
        form = f.form;
        values = f.values;
        more = drop f.length text;
        is_form = l;
        can_stand = hits.fit (below_all f.form l);
        is_line = hits.text (below_all f.form l);
        outside = λ entry later ranged whole. good-or-bad (line-outside text f e l q ∙ ap read_line whole ∙ read-line entry later ranged);
      },
    )

pub read-answers : (text : List ℕ) → Answers text (read_line text)
unfolding read_line line_after
read-answers text =
    let f = found saved_forms text in
    found-answers text f refl (found-hits saved_forms text forms-distinct) (ltb f.form 9) refl (all_in_range (form_at saved_forms f.form) f.values) refl

pub line-ranged : (text : List ℕ) {a : Result Parsed LineRefusal} {p : Parsed} → numbered line_number a ≡ read_line text → a ≡ Ok p → Ranged p.entry
line-ranged text {a} {p} e g = let good : GoodLine text p = subst (Answers text) (sym e ∙ ap (numbered line_number) g) (read-answers text) in good.ranged

-- no form is 10
pub read_none : (text : List ℕ) → NoFormAt text → read_line text ≡ Err 10
unfolding line_text
read_none text none = go (read_line text) (read-answers text)
  where
    go : (a : Result Parsed ℕ) → Answers text a → a ≡ Err 10
    go (Ok p) good = absurd (none (form_of p.entry) (values_of p.entry) (drop p.length text) (form_small p.entry) (line-fits p.entry good.ranged) good.is_line)
    go (Err number) (inl h) = ap Err h.0
    go (Err number) (inr h) = absurd (none h.1.form h.1.values h.1.more h.1.is_form h.1.can_stand h.1.is_line)

-- with a number outside its range it is 11
pub read-outside : (text : List ℕ) → OutOfRange text → read_line text ≡ Err 11
read-outside text h = go (read_line text) (read-answers text)
  where
    go : (a : Result Parsed ℕ) → Answers text a → a ≡ Err 11
    go (Ok p) good = absurd (h.outside p.entry (drop p.length text) good.ranged good.is_line)
    go (Err number) (inl none) = absurd (none.1 h.form h.values h.more h.is_form h.can_stand h.is_line)
    go (Err number) (inr outside) = ap Err outside.0
