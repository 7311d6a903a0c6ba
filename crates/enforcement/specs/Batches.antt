-- A few steps by value. Document 01, 'The plain gate': "a gate's next step gets the state that its last one handed back, and nothing else
-- writes that state".
-- Assumes nothing.
use Rattle.std.specs.Prelude.{List, ◌++◌, map, length, take, drop, replicate}
use Rattle.rules.specs.declared.lists.RuleList.{RuleList}
use Rattle.steps.specs.declared.answers.Answer.TheVariants.{Refused}
use Rattle.steps.specs.declared.steps.Step.{Step}
use Rattle.enforcement.specs.Gate.{run_of}
use Rattle.enforcement.specs.Runs.{last_state}
use Rattle.enforcement.specs.declared.states.State.{State}
use Rattle.enforcement.specs.declared.states.Next.{Next}
use Rattle.enforcement.specs.declared.batches.Batch.{Batch}
use Rattle.enforcement.specs.declared.batches.Entry.{Entry}
use Rattle.enforcement.specs.declared.batches.BatchRun.{BatchRun}

-- the first of the array, as many as the length says; all where it says more than there are
abbrev pub batch_steps : Batch → List Step
batch_steps batch = take batch.length batch.steps

abbrev pub entry_of : Next → Entry
entry_of next = record { answer = next.answer }

-- what stands where no step ran
abbrev pub unanswered : List Entry
unanswered = replicate 32 (record { answer = Refused 40 })

-- the answers of our gate's run in their order, and the state that the last step hands back
unfoldable pub batch_run : RuleList → State → Batch → BatchRun
batch_run list s batch =
    record {
      state = last_state s (run_of list s (batch_steps batch));
      entries = map entry_of (run_of list s (batch_steps batch)) ++ drop (length (batch_steps batch)) unanswered;
    }
