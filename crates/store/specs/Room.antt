-- The room of a store. Q-7: "The gateway asks for the free count before each batch and finds the lowest free slot by reading all owners."
-- What it is told is what that walk over the owners says. It is no command: nobody's right is asked, and nothing changes.
-- Assumes nothing.
use Rattle.std.specs.Prelude.{ℕ}
use Rattle.answers.specs.declared.Answer.{Answer}
use Rattle.answers.specs.Order.{first, if_good}
use Rattle.pool.specs.Pool.{place, free}
use Rattle.store.specs.Store.{Store}
use Rattle.store.specs.Step.{store_rows}

-- what is told of the room: how many slots are free, and the lowest of them or, where none is, the number of slots; both are 0 with a refusal
pub record Room : Type 0 where
  pub answer : Answer
  pub free : ℕ
  pub lowest : ℕ

-- "Refusals: 11 in its first place", as far as it is the store's
unfoldable pub room_answer : Store → Answer
room_answer s = first (store_rows s)

-- how many slots are free, and the lowest; as many as there are slots where none is
unfoldable pub room_of : Store → Room
room_of s = record {
  answer = room_answer s;
  free = if_good (room_answer s) (free s.pool.owners) 0;
  lowest = if_good (room_answer s) (place 0 s.pool.owners) 0;
}
