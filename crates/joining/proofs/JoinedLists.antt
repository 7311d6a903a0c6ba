-- THEOREMS on two lists joined: what is joined obeys as both, keeps every rule and right, is accepted, and each refusal has its own cause.
-- Assumes nothing.
use mathlib.Core.Path.{◌≡◌, refl, sym, ap, ◌∙◌}
use mathlib.Core.Bool.{Bool, true, false, cond, ◌&&◌}
use mathlib.Core.Logic.{◌↔◌, ◌⊎◌, inl, inr, ⊎_elim}
use mathlib.Core.List.{List, []}
use Prim.Native.Nat.{ℕ, suc, ◌+◌, ◌≤◌, ◌<◌}
use native.Mathlib.Omega.{arith}
use lib.ListN.{length}
use lib.Seq.{ext_get_or}
use lib.Dec.{ltb}
use borrow.Author.Tests.{lt-ltb, le-ltb, ltb-true, ltb-false}
use Rattle.sets.proofs.Booleans.{both_true, left-true, right-true, of-and-false}
use Rattle.rules.specs.Acceptance.{unstated, right_at, right_accepted, every, rules_of, list_accepted}
use Rattle.rules.specs.declared.families.Rule.{Rule}
use Rattle.rules.specs.declared.rights.Right.{Right}
use Rattle.rules.specs.declared.rights.Right.TheVariants.{Unstated, Permission}
use Rattle.rules.specs.declared.rights.RightSlot.{RightSlot}
use Rattle.std.specs.Prelude.{Option, Some, None}
use Rattle.rules.specs.declared.lists.RuleList.{RuleList}
use Rattle.rule_text.specs.Lines.{filler, line_count}
use Rattle.rule_text.specs.Reading.{no_rights, list_of, SameRules}
use Rattle.rule_text.specs.Causes.{GoodLines}
use Rattle.rule_text.proofs.Slots.{list-rights, rules-of-list, list-accepted, list-few, accepted-most, accepted-rules, accepted-good, none-good, same-rules}
use Rattle.rule_text.proofs.Back.{Accepted}
use Rattle.rules.specs.Lowest.{lowest}
use Rattle.rules.proofs.RuleLists.{lowest-after, lowest-means}
use Rattle.enforcement.specs.Plain.{obeys, lowest_broken}
use Rattle.enforcement.specs.Claims.{In, Holds}
use Rattle.enforcement.specs.States.{rule_holds}
use Rattle.enforcement.specs.declared.states.State.{State}
use Rattle.enforcement.proofs.Holding.{obeys-means}
use Rattle.joining.specs.Joining.{number_of, joined_rules, joined_right, joined_rights, rights_tested, too_many_at, refused_join, rules_joined, joined_under, join_of, ObeyedAsBoth}
use Rattle.joining.specs.declared.refusals.Refusal.{Refusal}
use Rattle.joining.specs.declared.refusals.Refusal.TheVariants.{NotAccepted, RightsDiffer, TooMany as TooManyRules, NoRoom}
use Rattle.joining.specs.Claims.{NoDoubles, Joins, KeepsRights, JoinRefused, first_refused, second_refused, rights_differ, too_many}
use Rattle.joining.specs.Joining.{Joined}
use Rattle.joining.proofs.Rules.{every-joined, joined-accepted, joins, joined-itself, joined-empty, TooMany, too-many-whole, too-many-told, too-many-there}
use Rattle.joining.proofs.Rights.{right-accepted, none_differ, first-differs, joined_at, joined-kinds, right-joined, keeps-rights}

-- no refusal has the number 0
pub refusal-some : (refusal : Refusal) → number_of refusal ≡ 0 → ⊥
refusal-some NotAccepted none = omega arith
refusal-some (RightsDiffer kind) none = omega arith
refusal-some (TooManyRules rule) none = omega arith
refusal-some (NoRoom rules) none = omega arith

module _ (first second : RuleList) where
  abbrev rights_of_both : List RightSlot
  rights_of_both = joined_rights first.rights second.rights

  abbrev rules_of_both : List Rule
  rules_of_both = joined_rules (rules_of first) (rules_of second)

  -- ---- what `join` returns in each case

  pub join-40 : (list_accepted first && list_accepted second) ≡ false → refused_join 40 0 ≡ join_of first second
  unfolding join_of
  join-40 e = rw e

  module _ (accepted : list_accepted first ≡ true) (second_accepted : list_accepted second ≡ true) where
    pub join-under : {tested : Option ℕ} → rights_tested first.rights second.rights ≡ tested → joined_under tested first second ≡ join_of first second
    unfolding join_of
    join-under e = rw (accepted, second_accepted, e)

    module _ (kept : rights_tested first.rights second.rights ≡ None) where
      joined-if : Bool → Joined
      joined-if many = cond many (refused_join 57 (too_many_at 1 (rules_of first) (rules_of second))) (record { number = 0; place = 0; list = list_of rights_of_both rules_of_both })

      by_length : joined-if (ltb 128 (length rules_of_both)) ≡ join_of first second
      unfolding joined-if rules_joined
      by_length = join-under kept

      join-57 : 128 < length rules_of_both → refused_join 57 (too_many_at 1 (rules_of first) (rules_of second)) ≡ join_of first second
      unfolding joined-if
      join-57 many = ap joined-if (sym (lt-ltb 128 (length rules_of_both) many)) ∙ by_length

      join-whole : length rules_of_both ≤ 128 → record { number = 0; place = 0; list = list_of rights_of_both rules_of_both } ≡ join_of first second
      unfolding joined-if
      join-whole few = ap joined-if (sym (le-ltb 128 (length rules_of_both) few)) ∙ by_length

  -- ---- which case it is

  data Case : Type 0 where
    refused : (number place : ℕ) → JoinRefused first second number place → join_of first second ≡ refused_join number place → Case
    whole : list_accepted first ≡ true → list_accepted second ≡ true → rights_tested first.rights second.rights ≡ None → length rules_of_both ≤ 128
        → join_of first second ≡ record { number = 0; place = 0; list = list_of rights_of_both rules_of_both } → Case

  case-refused : (list_accepted first ≡ false) ⊎ (list_accepted second ≡ false) → Case
  case-refused (inl e) = refused 40 0 (first_refused e) (sym (join-40 (ap (λ (b : Bool). b && list_accepted second) e)))
  case-refused (inr e) = go (list_accepted first) refl
    where
      go : (b : Bool) → list_accepted first ≡ b → Case
      go true f = refused 40 0 (second_refused f e) (sym (join-40 (rw (f, e))))
      go false f = refused 40 0 (first_refused f) (sym (join-40 (rw f)))

  module _ (accepted : list_accepted first ≡ true) (second_accepted : list_accepted second ≡ true) where
    case-rules : rights_tested first.rights second.rights ≡ None → Case
    case-rules kept = go (ltb 128 (length rules_of_both)) refl
      where
        go : (b : Bool) → ltb 128 (length rules_of_both) ≡ b → Case
        go true e =
            let many = ltb-true 128 (length rules_of_both) e in
            let found = too-many-there (rules_of first) (rules_of second) (list-few first accepted) many in
            refused 57 (suc found.0)
            (too_many found.0 accepted second_accepted ((none_differ first.rights second.rights).0 kept) found.1.below found.1.before found.1.after)
            (sym (join-57 accepted second_accepted kept many) ∙ ap (refused_join 57) (too-many-told (rules_of first) (rules_of second) 1 found.0 found.1 ∙ omega arith))
        go false e =
            let few = ltb-false 128 (length rules_of_both) e in
            whole accepted second_accepted kept few (sym (join-whole accepted second_accepted kept few))

    case-tested : (tested : Option ℕ) → rights_tested first.rights second.rights ≡ tested → Case
    case-tested None e = case-rules e
    case-tested (Some kind) e =
        let differ = (first-differs first.rights second.rights kind).0 e in
        refused 58 kind (rights_differ kind accepted second_accepted differ.0 differ.1 differ.2) (sym (join-under accepted second_accepted e))

  which : Case
  which = go (list_accepted first && list_accepted second) refl
    where
      go : (b : Bool) → (list_accepted first && list_accepted second) ≡ b → Case
      go true e =
          case-tested (left-true (list_accepted first) (list_accepted second) e) (right-true (list_accepted first) (list_accepted second) e) (rights_tested first.rights second.rights) refl
      go false e = case-refused (of-and-false (list_accepted first) (list_accepted second) e)

  -- ---- own cause of each number

  cause-told : {number place : ℕ} → JoinRefused first second number place → join_of first second ≡ refused_join number place
  cause-told (first_refused e) = sym (join-40 (ap (λ (b : Bool). b && list_accepted second) e))
  cause-told (second_refused e f) = sym (join-40 (rw (e, f)))
  cause-told (rights_differ kind e f below differ none) = sym (join-under e f ((first-differs first.rights second.rights kind).1 (below, differ, none)))
  cause-told (too_many n e f none below before after) =
      let many : TooMany (rules_of first) (rules_of second) n = record { below = below; before = before; after = after } in
      sym (join-57 e f ((none_differ first.rights second.rights).1 none) (too-many-whole (rules_of first) (rules_of second) n many))
      ∙ ap (refused_join 57) (too-many-told (rules_of first) (rules_of second) 1 n many ∙ omega arith)

  cause-some : {number place : ℕ} → JoinRefused first second number place → 0 < number
  cause-some (first_refused e) = omega arith
  cause-some (second_refused e f) = omega arith
  cause-some (rights_differ kind e f below differ none) = omega arith
  cause-some (too_many n e f none below before after) = omega arith

  -- THEOREM: a number is given with its place just where its cause is there, and then there is no list
  pub join-refused : (number place : ℕ) → 0 < number → (join_of first second ≡ refused_join number place) ↔ JoinRefused first second number place
  join-refused number place some = (go which, cause-told)
    where
      go : Case → join_of first second ≡ refused_join number place → JoinRefused first second number place
      go (refused n p cause e) h =
          let same_number : n ≡ number = ap (λ (j : Joined). j.number) (sym e ∙ h) in
          let same_place : p ≡ place = ap (λ (j : Joined). j.place) (sym e ∙ h) in
          rw (← same_number, ← same_place) cause
      go (whole accepted second_accepted kept few e) h = absurd (omega (arith, some, ap (λ (j : Joined). j.number) (sym e ∙ h)))

  -- no other number is given
  pub join-number : ((join_of first second).number ≡ 0) ⊎ ((number place : ℕ) × JoinRefused first second number place × (join_of first second ≡ refused_join number place))
  join-number = go which
    where
      go : Case → ((join_of first second).number ≡ 0) ⊎ ((number place : ℕ) × JoinRefused first second number place × (join_of first second ≡ refused_join number place))
      go (refused n p cause e) = inr (n, p, cause, e)
      go (whole accepted second_accepted kept few e) = inl (ap (λ (j : Joined). j.number) e)

  -- what the place of a refusal is bounded by
  pub join-place : ((join_of first second).place ≤ 128) × ((join_of first second).number ≡ 58 → (join_of first second).place < 6)
  join-place = go which
    where
      at-cause : {number place : ℕ} → JoinRefused first second number place → (place ≤ 128) × (number ≡ 58 → place < 6)
      at-cause (first_refused e) = (omega arith, λ h. omega arith)
      at-cause (second_refused e f) = (omega arith, λ h. omega arith)
      at-cause (rights_differ kind e f below differ none) = (omega arith, λ h. below)
      at-cause (too_many n e f none below before after) = (omega (arith, below, list-few second f), λ h. omega arith)

      go : Case → ((join_of first second).place ≤ 128) × ((join_of first second).number ≡ 58 → (join_of first second).place < 6)
      go (refused n p cause e) = rw e (at-cause cause)
      go (whole accepted second_accepted kept few e) = rw e (omega arith, λ h. omega arith)

  -- ---- what is joined

  pub record Whole : Type 0 where
    pub accepted : list_accepted first ≡ true
    pub second_accepted : list_accepted second ≡ true
    pub kept : rights_tested first.rights second.rights ≡ None
    pub few : length rules_of_both ≤ 128
    pub made : join_of first second ≡ record { number = 0; place = 0; list = list_of rights_of_both rules_of_both }

  pub join-made : (join_of first second).number ≡ 0 → Whole
  join-made none = go which
    where
      go : Case → Whole
      go (refused n p cause e) = absurd (omega (arith, cause-some cause, ap (λ (j : Joined). j.number) e, none))
      go (whole accepted second_accepted kept few e) = record { accepted = accepted; second_accepted = second_accepted; kept = kept; few = few; made = e }

  module _ (none : (join_of first second).number ≡ 0) where
    pub rules-joined : rules_of (join_of first second).list ≡ rules_of_both
    rules-joined = ap (λ (j : Joined). rules_of j.list) (join-made none).made ∙ rules-of-list rights_of_both rules_of_both (join-made none).few

    pub rights-joined : (join_of first second).list.rights ≡ rights_of_both
    rights-joined = ap (λ (j : Joined). j.list.rights) (join-made none).made ∙ list-rights rights_of_both rules_of_both

    -- THEOREM: the joined list is the first, then in turn each rule of the second that equals none already there
    pub list-joins : Joins (rules_of first) (rules_of second) (rules_of (join_of first second).list)
    list-joins = rw rules-joined (joins (rules_of first) (rules_of second))

    -- THEOREM: right lines of either list are kept, equal ones once
    pub list-keeps-rights : KeepsRights first.rights second.rights (join_of first second).list.rights
    list-keeps-rights = rw rights-joined (keeps-rights first.rights second.rights (join-made none).kept)

    -- a test passes at every rule of the joined list just where it passes at every rule of both
    pub tested-as-both : (p : Rule → Bool) → every p (rules_of (join_of first second).list) ≡ (every p (rules_of first) && every p (rules_of second))
    tested-as-both p =
        ap (every p) rules-joined
        ∙ every-joined p (rules_of first) (rules_of second) (accepted-rules first (join-made none).accepted) (accepted-rules second (join-made none).second_accepted)

    -- THEOREM: a state obeys the joined list just if it obeys both, in plain words
    pub obeyed-by-both : (s : State) → ((rule : Rule) → In rule (rules_of (join_of first second).list) → Holds rule s)
        ↔ (((rule : Rule) → In rule (rules_of first) → Holds rule s) × ((rule : Rule) → In rule (rules_of second) → Holds rule s))
    obeyed-by-both s =
        let same = tested-as-both (λ rule. rule_holds rule s) in
        let joined = rules_of (join_of first second).list in (
          λ h.
              let all : (obeys (rules_of first) s && obeys (rules_of second) s) ≡ true = sym same ∙ (obeys-means joined s).1 h in (
                (obeys-means (rules_of first) s).0 (left-true (obeys (rules_of first) s) (obeys (rules_of second) s) all),
                (obeys-means (rules_of second) s).0 (right-true (obeys (rules_of first) s) (obeys (rules_of second) s) all),
              ),
          λ h. (obeys-means joined s).0
              (same ∙ both_true (obeys (rules_of first) s) (obeys (rules_of second) s) ((obeys-means (rules_of first) s).1 h.0) ((obeys-means (rules_of second) s).1 h.1)),
        )

    -- THEOREM: a state that obeys the first list breaks no rule of the joined one but those past it
    pub broken-past-first : (s : State) (rule : ℕ) → obeys (rules_of first) s ≡ true → lowest_broken (rules_of (join_of first second).list) s ≡ Some rule → length (rules_of first) < rule
    broken-past-first s rule obeyed broken =
        let test : Rule → Bool = λ k. rule_holds k s in
        let found : lowest test (1 + length (rules_of first)) list-joins.past ≡ Some rule =
        sym (ap (lowest test 1) list-joins.front ∙ lowest-after test 1 (rules_of first) list-joins.past obeyed) ∙ broken in
        omega (arith, ((lowest-means test filler (1 + length (rules_of first)) list-joins.past rule).0 found).1)

  -- what `join` promises
  pub obeyed-as-both : {joined : Joined} → joined ≡ join_of first second → ObeyedAsBoth first second joined
  obeyed-as-both {joined} e none s =
      ap (λ (j : Joined). obeys (rules_of j.list) s) e ∙ tested-as-both (sym (ap (λ (j : Joined). j.number) e) ∙ none) (λ rule. rule_holds rule s)

-- ---- what is joined is accepted

module _ (first second : RuleList) (kinds : length first.rights ≡ 6) (second-kinds : length second.rights ≡ 6) where
  good-joined : Whole first second → GoodLines (joined_rights first.rights second.rights) (joined_rules (rules_of first) (rules_of second))
  good-joined joined =
      let good = accepted-good first kinds joined.accepted in
      let second-good = accepted-good second second-kinds joined.second_accepted in
      record {
        kinds = joined-kinds first.rights second.rights;
        fits_range = λ kind below.
            ap right_accepted (right-joined first.rights second.rights kind below)
            ∙ right-accepted (right_at first.rights kind) (right_at second.rights kind) (good.fits_range kind below) (second-good.fits_range kind below);
        few = joined.few;
        accepted = joined-accepted (rules_of first) (rules_of second) good.accepted second-good.accepted;
      }

  -- THEOREM: what is joined is accepted
  pub join-accepted : list_accepted (join_of first second).list ≡ true
  join-accepted = ⊎_elim
      (λ none. rw (join-made first second none).made (list-accepted (joined_rights first.rights second.rights) (joined_rules (rules_of first) (rules_of second)) (good-joined (join-made first second none))))
      (λ other. rw other.3 (list-accepted no_rights [] none-good))
      (join-number first second)

-- it has a right, or none, for each kind
pub join-kinds : (first second : RuleList) → length (join_of first second).list.rights ≡ 6
unfolding no_rights
join-kinds first second = ⊎_elim
    (λ none. ap length (rights-joined first second none) ∙ joined-kinds first.rights second.rights)
    (λ other. ap (λ (j : Joined). length j.list.rights) other.3 ∙ ap length (list-rights no_rights []))
    (join-number first second)

-- ---- a list with itself and with the empty one

-- no right differs from itself
itself-agrees : (rights : List RightSlot) → rights_tested rights rights ≡ None
itself-agrees rights = (none_differ rights rights).1 (λ kind below differ. differ.4 (same-permission differ.2 differ.3))
  where
    same-permission : {right : Right} {p q : ℕ} → right ≡ Permission p → right ≡ Permission q → p ≡ q
    same-permission e f = let same : Permission _ ≡ Permission _ = sym e ∙ f in cc

-- what is not stated does not differ
unstated-differs : {right : Right} {p : ℕ} → right ≡ Unstated → right ≡ Permission p → ⊥
unstated-differs {right} {p} e f = let same : line_count Unstated ≡ line_count (Permission p) = ap line_count (sym e ∙ f) in omega (arith, same)

-- where the joined rights and rules are a list's own, the joined list is that list
same-joined : (list first second : RuleList) → Accepted list → list_accepted first ≡ true → list_accepted second ≡ true → rights_tested first.rights second.rights ≡ None
    → ((kind : ℕ) → kind < 6 → joined_right (right_at first.rights kind) (right_at second.rights kind) ≡ right_at list.rights kind)
    → joined_rules (rules_of first) (rules_of second) ≡ rules_of list
    → join_of first second ≡ record { number = 0; place = 0; list = list_of list.rights (rules_of list) }
same-joined list first second accepted first-accepted second_accepted kept same_rights same-rules =
    sym (join-whole first second first-accepted second_accepted kept (rw same-rules (list-few list accepted.2)))
    ∙ (λ j. record { number = 0; place = 0; list = list_of (rights j) (same-rules j) })
  where
    rights : joined_rights first.rights second.rights ≡ list.rights
    rights =
        ext_get_or unstated (joined_rights first.rights second.rights) list.rights (joined-kinds first.rights second.rights ∙ sym accepted.1)
        (λ kind below. joined_at first.rights second.rights kind (omega (arith, joined-kinds first.rights second.rights))
        ∙ ap (λ (right : Right). record { right = right }) (same_rights kind (omega (arith, joined-kinds first.rights second.rights))))

-- a list without rules and rights
abbrev pub Empty : RuleList → Type 0
Empty list = (list.length ≡ 0) × ((kind : ℕ) → kind < 6 → right_at list.rights kind ≡ Unstated)

empty-rules : (list : RuleList) → Empty list → rules_of list ≡ []
empty-rules list empty = rw empty.0

module _ (list : RuleList) (accepted : Accepted list) where
  pub itself : join_of list list ≡ record { number = 0; place = 0; list = list_of list.rights (rules_of list) }
  itself =
      same-joined list list list accepted accepted.2 accepted.2 (itself-agrees list.rights) (λ kind below. right-itself (right_at list.rights kind)) (joined-itself (rules_of list))
    where
      right-itself : (right : Right) → joined_right right right ≡ right
      right-itself Unstated = refl
      right-itself (Permission p) = refl

  -- THEOREM: a list joined with itself is itself
  pub with_itself : ((join_of list list).number ≡ 0) × SameRules list (join_of list list).list
  with_itself = (ap (λ (j : Joined). j.number) itself, rw itself (same-rules list accepted.0 (accepted-most list accepted.2)))

  module _ (other : RuleList) (other-accepted : list_accepted other ≡ true) (empty : Empty other) where
    pub after-empty : join_of list other ≡ record { number = 0; place = 0; list = list_of list.rights (rules_of list) }
    unfolding joined_rules
    after-empty =
        same-joined list list other accepted accepted.2 other-accepted
        ((none_differ list.rights other.rights).1 (λ kind below differ. unstated-differs (empty.1 kind below) differ.3))
        (λ kind below. right-first (right_at list.rights kind) (right_at other.rights kind) (empty.1 kind below))
        (rw (empty-rules other empty))
      where
        right-first : (right none : Right) → none ≡ Unstated → joined_right right none ≡ right
        right-first Unstated none e = e
        right-first (Permission p) none e = refl

    -- THEOREM: joined with the empty list a list is itself
    pub with-empty : ((join_of list other).number ≡ 0) × SameRules list (join_of list other).list
    with-empty = (ap (λ (j : Joined). j.number) after-empty, rw after-empty (same-rules list accepted.0 (accepted-most list accepted.2)))

    module _ (single : NoDoubles (rules_of list)) where
      pub before-empty : join_of other list ≡ record { number = 0; place = 0; list = list_of list.rights (rules_of list) }
      before-empty =
          same-joined list other list accepted other-accepted accepted.2
          ((none_differ other.rights list.rights).1 (λ kind below differ. unstated-differs (empty.1 kind below) differ.2))
          (λ kind below. ap (λ (right : Right). joined_right right (right_at list.rights kind)) (empty.1 kind below))
          (ap (λ (rules : List Rule). joined_rules rules (rules_of list)) (empty-rules other empty) ∙ joined-empty (rules_of list) single)

      -- THEOREM: and the empty list joined with it, where it has no doubles
      pub empty-with : ((join_of other list).number ≡ 0) × SameRules list (join_of other list).list
      empty-with = (ap (λ (j : Joined). j.number) before-empty, rw before-empty (same-rules list accepted.0 (accepted-most list accepted.2)))
