-- What the contracts speak of: the store and the call that the lent buffers make, and what is left of them.
-- Assumes nothing.
use Rattle.std.specs.Prelude.{List, ℕ, Result as Either, Ok, Err}
use Rattle.answers.specs.declared.Answer.{Answer}
use Rattle.answers.specs.declared.Answer.TheVariants.{Good}
use Rattle.pool.specs.Pool.{pool}
use Rattle.store.specs.declared.Unit.{Unit}
use Rattle.store.specs.Store.{Store, Call, Result}
use Rattle.store.specs.Fresh.{FreshResult, fresh_unit}
use Rattle.reply.specs.declared.Outcome.{Outcome}

-- the store of a format, a unit and the pool that is lent to it
abbrev pub store_of : ℕ → Unit → List ℕ → List ℕ → List ℕ → Store
store_of format unit owners marks medium = record { format = format; unit = unit; pool = pool owners marks medium }

abbrev pub call_of : ℕ → List ℕ → List ℕ → List ℕ → List ℕ → Call
call_of nexus cdb data_out data_in sense =
    record { nexus = nexus; cdb = cdb; data_out = data_out; data_in = data_in; sense = sense }

-- all that a call leaves of a store of this format
abbrev pub left : ℕ → Outcome → List ℕ → List ℕ → List ℕ → List ℕ → List ℕ → Result
left format r owners marks medium data_in sense = record {
  seen = record { answer = r.answer; returned = r.returned; data_in = data_in; sense = sense };
  store = store_of format r.unit owners marks medium;
}

-- all that making a fresh store leaves: its unit, or an answer with a unit without blocks
abbrev pub made : Either Unit Answer → List ℕ → List ℕ → FreshResult
made (Ok unit) owners marks = record { answer = Good; unit = unit; owners = owners; marks = marks }
made (Err answer) owners marks = record { answer = answer; unit = fresh_unit 0; owners = owners; marks = marks }
