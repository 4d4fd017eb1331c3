use Rattle.sheet.proofs.CallLaws.{fresh_made, fresh_given}
use Rattle.sheet.proofs.calls.fresh_unit.Goals as goal

pub unwrap-requires : goal.unwrap-requires
unwrap-requires c = fresh_made _ _ _ _ _ c.requires.0 c.requires.1 c.fresh.ensures

pub returns : goal.returns
returns c = fresh_given _ _ _ _ _ _ c.requires.0 c.requires.1 c.fresh.ensures c.unwrap.ensures
