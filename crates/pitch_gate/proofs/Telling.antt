-- A report told in numbers is the one that the contract names. Assumes nothing.
use mathlib.Core.Path.{◌≡◌, refl, sym, ap, ◌∙◌, subst}
use mathlib.Core.Bool.{Bool, true, false, cond}
use mathlib.Core.List.{List, [], ◌∷◌, ◌++◌}
use Prim.Native.Nat.{ℕ}
use native.Mathlib.Omega.{arith}
use lib.ListN.{length, drop}
use lib.Seq.{sets, sets-eq}
use Rattle.std.proofs.lemmas.List.{drop_all}
use lib.Dec.{eqb, leb}
use Rattle.forms.specs.Writing.{written_of, lent_after}
use Rattle.std.specs.Prelude.{Result, Ok, Err}
use Rattle.texts.specs.SavedRuns.{load_texts, loaded_texts, rules_in, refused_report, written_report, lent_to, output_report, SavedOutcome, Ran}
use Rattle.texts.specs.declared.saved_runs.Text.TheVariants as Text
use Rattle.texts.specs.declared.saved_runs.LoadedTexts.{LoadedTexts}
use Rattle.texts.specs.SavedRuns.{Report}
use Rattle.texts.proofs.SavedRunning.{loaded-refused, loaded-holding}
use Rattle.pitch_gate.specs.Reports.{Told, Given, Handed, response_report, texts_report}

pub told : {report other : Report} {number : ℕ} {numbers numbers' : List ℕ} → report ≡ other → Told report number numbers numbers' → Told other number numbers numbers'
told {report} {other} {number} {numbers} {numbers'} e t = subst (λ (r : Report). Told r number numbers numbers') e t

pub given : {report other : Report} {text lent lent' : List ℕ} {number : ℕ} {numbers numbers' : List ℕ} → (report ≡ other) × (lent' ≡ lent_to report text lent) → Told report number numbers numbers'
    → Given other text lent number numbers lent' numbers'
given {report} {other} {text} {lent} e t = record { told = told e.0 t; left = e.1 ∙ ap (λ (r : Report). lent_to r text lent) e.0 }

-- all four numbers
pub filled : (numbers : List ℕ) (a b c d : ℕ) → length numbers ≡ 4 → a ∷ b ∷ c ∷ d ∷ [] ≡ sets numbers 0 (a ∷ b ∷ c ∷ d ∷ [])
filled numbers a b c d h =
    sym (sets-eq (a ∷ b ∷ c ∷ d ∷ []) numbers 0 (omega arith) ∙ ap (λ (past : List ℕ). (a ∷ b ∷ c ∷ d ∷ []) ++ past) (drop_all 4 numbers (omega arith)))

-- ---- a response

module _ (text lent : List ℕ) where
  report-same : response_report (written_of text lent) (length text) ≡ output_report text (length lent)
  unfolding written_of output_report
  report-same = go (leb (length text) (length lent))
    where
      go : (b : Bool) → response_report (cond {A = Result ℕ ℕ} b (Ok (length text)) (Err 18)) (length text) ≡ cond b (written_report (length text) 0) (refused_report Text.OutputSpace 18 (length text))
      go true = refl
      go false = refl

  lent-response : lent_after text lent ≡ lent_to (output_report text (length lent)) text lent
  unfolding lent_after lent_to output_report
  lent-response = go (leb (length text) (length lent))
    where
      go : (b : Bool)
          → cond b (text ++ drop (length text) lent) lent
          ≡ cond (eqb (cond b (written_report (length text) 0) (refused_report Text.OutputSpace 18 (length text))).number 0) (text ++ drop (length text) lent) lent
      go true = refl
      go false = refl

pub responded : {text lent lent' : List ℕ} {written : Result ℕ ℕ} {report : Report} → (written ≡ written_of text lent) × (lent' ≡ lent_after text lent) → report ≡ response_report written (length text)
    → {number : ℕ} {numbers numbers' : List ℕ} → Told report number numbers numbers' → Given (output_report text (length lent)) text lent number numbers lent' numbers'
responded {text} {lent} w e t =
    record { told = told (e ∙ ap (λ (x : Result ℕ ℕ). response_report x (length text)) w.0 ∙ report-same text lent) t; left = w.1 ∙ lent-response text lent }

-- ---- two texts

module _ (rules saved : List ℕ) (read : LoadedTexts) (e : read ≡ loaded_texts (rules_in rules) (load_texts rules saved)) where
  pub texts-held : read.number ≡ 0 → written_report 0 0 ≡ texts_report (load_texts rules saved)
  unfolding texts_report
  texts-held none = rw (loaded-holding rules saved read e none).0

  pub texts-refused : (read.number ≡ 0 → ⊥) → refused_report read.text read.number read.place ≡ texts_report (load_texts rules saved)
  unfolding texts_report
  texts-refused some = rw (loaded-refused rules saved read e some).0

-- ---- steps

pub handed : {outcome : SavedOutcome} {answers next answers' next' : List ℕ} {report : Report} → Ran outcome answers next report answers' next'
    → {number : ℕ} {numbers numbers' : List ℕ} → Told report number numbers numbers' → Handed outcome answers next number numbers answers' next' numbers'
handed v t =
    record {
      told = told v.reported t;
      answered = v.answered ∙ rw v.reported;
      saved = v.saved ∙ rw v.reported;
    }
