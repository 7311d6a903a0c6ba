use mathlib.Core.Logic.{⊎_elim}
use Rattle.selection.specs.Selection.{selects}
use Rattle.selection.proofs.Choosing.{none-chosen, assign-chosen, withdraw-chosen, grant-chosen, activate-chosen, deactivate-chosen, access-chosen, close-chosen, move-chosen, lost-chosen, clock-chosen, lend-chosen, recall-chosen, chosen-told}
use Rattle.selection.proofs.selection.choice_of.Goals as goal

pub returns-in-Malformed : goal.returns-in-Malformed
unfolding selects
returns-in-Malformed c =
    ⊎_elim
    (λ is. chosen-told _ _ is _ _ c.by_families.ensures (λ k. none-chosen k))
    (⊎_elim
    (λ is. chosen-told _ _ is.2 _ _ c.by_families.ensures (λ k. none-chosen k))
    (⊎_elim
    (λ is. chosen-told _ _ is.2 _ _ c.by_families.ensures (λ k. none-chosen k))
    (λ is. chosen-told _ _ is.1 _ _ c.by_families.ensures (λ k. none-chosen k)))) c.in-Malformed.is

pub returns-in-Assign : goal.returns-in-Assign
returns-in-Assign c = chosen-told _ _ c.in-Assign.is _ _ c.by_families-in-Assign.ensures (λ k. assign-chosen k _ _)

pub returns-in-Withdraw : goal.returns-in-Withdraw
returns-in-Withdraw c = chosen-told _ _ c.in-Withdraw.is _ _ c.by_families-in-Withdraw.ensures (λ k. withdraw-chosen k _ _)

pub returns-in-Grant : goal.returns-in-Grant
returns-in-Grant c = chosen-told _ _ c.in-Grant.is _ _ c.by_families-in-Grant.ensures (λ k. grant-chosen k _ _)

pub returns-in-Activate : goal.returns-in-Activate
returns-in-Activate c = chosen-told _ _ c.in-Activate.is _ _ c.by_families-in-Activate.ensures (λ k. activate-chosen k _ _)

pub returns-in-Deactivate : goal.returns-in-Deactivate
returns-in-Deactivate c = chosen-told _ _ c.in-Deactivate.is _ _ c.by_families-in-Deactivate.ensures (λ k. deactivate-chosen k _ _)

pub returns-in-Access : goal.returns-in-Access
returns-in-Access c = chosen-told _ _ c.in-Access.is _ _ c.by_families-in-Access.ensures (λ k. access-chosen k _ _ _)

pub returns-in-Close : goal.returns-in-Close
returns-in-Close c =
    ⊎_elim
    (λ is. chosen-told _ _ is.1 _ _ c.by_families-in-Close.ensures (λ k. close-chosen k _))
    (λ is. chosen-told _ _ is.3 _ _ c.by_families-in-Close.ensures (λ k. recall-chosen k _ _ _)) c.in-Close.is

pub returns-in-Move : goal.returns-in-Move
returns-in-Move c =
    ⊎_elim
    (λ is. chosen-told _ _ is.2 _ _ c.by_families-in-Move.ensures (λ k. move-chosen k _ _))
    (λ is. chosen-told _ _ is.1 _ _ c.by_families-in-Move.ensures (λ k. lost-chosen k _)) c.in-Move.is

pub returns-in-Clock : goal.returns-in-Clock
returns-in-Clock c = chosen-told _ _ c.in-Clock.is _ _ c.by_families-in-Clock.ensures (λ k. clock-chosen k _)

pub returns-in-Lend : goal.returns-in-Lend
returns-in-Lend c = chosen-told _ _ c.in-Lend.is _ _ c.by_families-in-Lend.ensures (λ k. lend-chosen k _ _ _ _)
