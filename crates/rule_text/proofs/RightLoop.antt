-- The loop of `read_rights`: the rights that were read and what reading the rest gives are together what reading the text gives.
-- Assumes nothing.
use mathlib.Core.Path.{◌≡◌, refl, sym, ap, ◌∙◌}
use mathlib.Core.List.{List, ◌++◌, append-nil}
use Prim.Native.Nat.{ℕ, zero, suc, ◌+◌, ◌-◌, ◌≤◌, ◌<◌}
use native.Mathlib.Nat.{add-zero, zero-add, add_assoc}
use native.Mathlib.Numerals.{add-one}
use native.Mathlib.Omega.{arith}
use lib.ListN.{length, take, drop, get_or, set, replicate, length-append, length-drop, length-set}
use lib.Seq.{sets, sets-eq, drop-drop, drop-length, get_or-set_other, set-get_or}
use Rattle.rules.specs.Acceptance.{unstated}
use Rattle.rules.specs.declared.rights.Right.TheVariants.{Permission}
use Rattle.rules.specs.declared.rights.RightSlot.{RightSlot}
use Rattle.rule_text.specs.Lines.{line_count, right_text}
use Rattle.rule_text.specs.Reading.{no_right, read_right, right_slot, right_then, rights_from, read_rights}
use Rattle.rule_text.specs.declared.rights.RightRead.{RightRead}
use Rattle.rule_text.specs.declared.rights.RightsRead.{RightsRead}
use Rattle.rule_text.proofs.RightLines.{RightSays, no_line, a_line, right-says}
use Rattle.rule_text.proofs.RightLists.{reads-rights}
use Rattle.forms.proofs.Turns as turns

-- the rights of the kinds from one on, after those that were read
abbrev onto : RightsRead → ℕ → RightsRead → RightsRead
onto read kind next = record { rights = sets read.rights kind next.rights; length = read.length + next.length; lines = read.lines + next.lines }

pub record Inv (text : List ℕ) (read : RightsRead) (kind : ℕ) : Type 0 where
  pub last : kind ≤ 6
  pub slots : length read.rights ≡ 6
  pub within : read.length ≤ length text
  pub few : read.lines ≤ kind
  pub later : (i : ℕ) → kind ≤ i → get_or read.rights i unstated ≡ unstated
  pub same : read_rights text ≡ onto read kind (rights_from (6 - kind) kind (drop read.length text))

all_set : (slots others : List RightSlot) → length slots ≡ length others → sets slots 0 others ≡ others
all_set slots others e =
    let all : 0 + length others ≡ length slots = omega arith in
    rw all at (sets-eq others slots 0 (omega arith)) ∙ ap (λ (l : List RightSlot). others ++ l) (drop-length slots) ∙ append-nil others

blank : (i : ℕ) → get_or (replicate 6 unstated) i unstated ≡ unstated
blank zero = refl
blank (suc zero) = refl
blank (suc (suc zero)) = refl
blank (suc (suc (suc zero))) = refl
blank (suc (suc (suc (suc zero)))) = refl
blank (suc (suc (suc (suc (suc zero))))) = refl
blank (suc (suc (suc (suc (suc (suc i)))))) = refl

pub start : (text : List ℕ) → Inv text (record { rights = replicate 6 unstated; length = 0; lines = 0 }) 0
start text = record {
  last = omega arith;
  slots = refl;
  within = omega arith;
  few = omega arith;
  later = λ i after. blank i;
  same = sym (rw (all_set (replicate 6 unstated) (read_rights text).rights (sym (reads-rights 6 0 text (omega arith)).count), zero-add, zero-add));
}

right-short : (kind : ℕ) (text : List ℕ) → kind < 6 → (read_right kind text).length ≤ length text
right-short kind text h = go (read_right kind text) (right-says kind text h)
  where
    go : (read : RightRead) → RightSays kind text read → read.length ≤ length text
    go read (no_line none) = omega arith
    go read (a_line permission st) = omega (arith, ap length st.reads, length-append (right_text kind (Permission permission)) st.rest)

module _ {text : List ℕ} {read : RightsRead} {kind : ℕ} (inv : Inv text read kind) (more : kind < 6)
    {answer : RightRead} (given : answer ≡ read_right kind (take (length text - read.length) (drop read.length text))) where
  here : answer ≡ read_right kind (drop read.length text)
  here = given ∙ ap (read_right kind) (turns.rest text read.length)

  pub fits : read.length + answer.length ≤ length text
  fits =
      let short : answer.length ≤ length (drop read.length text) = rw here (right-short kind (drop read.length text) more) in
      omega (arith, inv.within, length-drop read.length text)

  pub turn : {count : ℕ} → count ≡ line_count answer.right → count ≤ 1
      → Inv text (record { rights = set read.rights kind (right_slot answer.right); length = read.length + answer.length; lines = read.lines + count }) (kind + 1)
  unfolding rights_from
  turn {count} counted one = record {
    last = omega arith;
    slots = length-set read.rights kind (right_slot answer.right) ∙ inv.slots;
    within = fits;
    few = omega (arith, inv.few);
    later = λ i after. get_or-set_other read.rights kind i (right_slot answer.right) unstated (λ e. omega arith) ∙ inv.later i (omega arith);
    same =
        let rest = drop read.length text in
        let bound : 6 - kind ≡ suc (5 - kind) = omega arith in
        let next : 6 - (kind + 1) ≡ 5 - kind = omega arith in
        let step : rights_from (6 - kind) kind rest ≡ right_then answer (rights_from (5 - kind) (suc kind) (drop answer.length rest)) = rw (bound, here) in
        inv.same ∙ ap (onto read kind) step
        ∙ rw (next, add-one kind, drop-drop answer.length read.length text, counted, add_assoc, add_assoc);
  }

-- a kind that has no line
pub turn-unstated : {text : List ℕ} {read : RightsRead} {kind : ℕ} → Inv text read kind → kind < 6
    → no_right ≡ read_right kind (take (length text - read.length) (drop read.length text)) → Inv text read (kind + 1)
turn-unstated {text} {read} {kind} inv more none =
    let kept : set read.rights kind unstated ≡ read.rights = rw (inv.later kind (omega arith)) at (set-get_or read.rights kind unstated) in
    rw (kept, add-zero, add-zero) at (turn inv more none {count = 0} refl (omega arith))

pub end : {text : List ℕ} {read : RightsRead} {kind : ℕ} → Inv text read kind → 6 ≤ kind → read ≡ read_rights text
unfolding rights_from
end {text} {read} {kind} inv done =
    let all : 6 - kind ≡ 0 = omega arith in
    sym (inv.same ∙ rw (all, add-zero, add-zero))
