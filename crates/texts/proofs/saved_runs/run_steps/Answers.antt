use mathlib.Core.Path.{refl, sym, ap, ◌∙◌}
use Rattle.forms.specs.Refusals.{numbered, write_number}
use Rattle.texts.proofs.SavedRunning.{no_room, no-state-room, both-written, kept-answers}
use Rattle.texts.proofs.saved_runs.run_steps.Goals as goal

pub returns-then-answers-size-clause-given : goal.returns-then-answers-size-clause-given
returns-then-answers-size-clause-given c =
    let told = c.requires in
    no_room c.args.list c.args.state _ told.0 told.1 told.2 _ _ c.put_answers-measured.ensures.0 c.if-answers-size.true c.short.ensures.given

pub returns-in_default-clause-given : goal.returns-in_default-clause-given
returns-in_default-clause-given c =
    let told = c.requires in
    let measured = c.put_answers-measured in
    let written = c.write_state in
    no-state-room c.args.list c.args.state _ told.0 told.1 told.2 _ _ measured.ensures.0 c.if-answers-size.false _ measured.ensures.1 _ (sym (ap (numbered write_number) c.in_default.is) ∙ written.ensures.0) written.ensures.1 c.saved_length-needed.ensures c.short-in_default.ensures.given

pub write_answers-place-requires : goal.write_answers-place-requires
write_answers-place-requires c =
    let told = c.requires in
    let measured = c.put_answers-measured in
    (c.if-answers-size.false, kept-answers c.args.list c.args.state _ told.0 told.1 told.2 measured.ensures.0)

pub returns-clause-given : goal.returns-clause-given
returns-clause-given c =
    let told = c.requires in
    let measured = c.put_answers-measured in
    let written = c.write_state in
    both-written c.args.list c.args.state _ told.0 told.1 told.2 _ _ measured.ensures.0 c.if-answers-size.false _ measured.ensures.1 _ (sym (ap (numbered write_number) c.in-Ok.is) ∙ written.ensures.0) written.ensures.1 c.write_answers-place.ensures refl
