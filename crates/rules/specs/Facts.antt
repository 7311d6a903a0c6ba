-- What a full test reads, as the code lends it and as the definitions see it.
-- Assumes nothing.
use Rattle.rules.specs.Families.{View, view}
use Rattle.rules.specs.declared.facts.Facts.{Facts}

abbrev pub view_of : Facts → View
view_of facts = view facts.assigned.now facts.held.now facts.granted.now facts.sessions.now facts.active.now facts.history.now facts.time
