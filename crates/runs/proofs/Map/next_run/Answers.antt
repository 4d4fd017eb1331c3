-- `runs::Map::next_run` meets its contract.
-- Assumes nothing.
use mathlib.Core.Path.{◌≡◌, ◌∙◌, ap}
use mathlib.Core.Bool.{not}
use native.Mathlib.Omega.{arith}
use Rattle.runs.specs.Runs.{held_from}
use Rattle.runs.proofs.RunLaws.{held_first, held_none, held_other, sight_from, run_seen}
use Rattle.runs.proofs.Map.next_run.Goals as goal

pub returns-then-seen-gt0 : goal.returns-then-seen-gt0
returns-then-seen-gt0 c =
    let a = c.args in
    let t = c.told.ensures in
    let e : c.run_of-seen.result ≡ held_from a.likely a.self.owners.now a.lba.0 (sight_from a.self.capacity a.lba.0) =
    c.run_of-seen.ensures ∙ ap (held_from a.likely a.self.owners.now a.lba.0) c.sight_from-sight.ensures in
    rw (t.0, t.1, t.2)
    (run_seen _ _ _ _ _ (held_first a.likely a.self.owners.now a.lba.0 (sight_from a.self.capacity a.lba.0) (omega (arith, c.if-seen-gt0.true))) e)

pub returns : goal.returns
returns c =
    let a = c.args in
    let t = c.told-2.ensures in
    let m = c.sight_from-sight.ensures in
    let e : c.run_of-seen.result ≡ held_from a.likely a.self.owners.now a.lba.0 (sight_from a.self.capacity a.lba.0) =
    c.run_of-seen.ensures ∙ ap (held_from a.likely a.self.owners.now a.lba.0) m in
    let n : held_from a.likely a.self.owners.now a.lba.0 (sight_from a.self.capacity a.lba.0) ≡ 0 = omega (arith, c.if-seen-gt0.false) in
    let d = held_none a.likely a.self.owners.now a.lba.0 (sight_from a.self.capacity a.lba.0) n (omega (arith, c.requires)) in
    rw (t.0, t.1, t.2)
    (run_seen _ _ _ _ _ (held_other a.likely a.self.owners.now a.lba.0 d)
    (c.run_of.ensures ∙ ap (held_from (not a.likely) a.self.owners.now a.lba.0) m))
