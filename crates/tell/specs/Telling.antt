-- What the contract of the commands that tell speaks of: what is told, cut, where data-in has room for it.
-- Assumes nothing.
use Rattle.std.specs.Prelude.{List, ℕ, take}
use Rattle.answers.specs.Order.{first}
use Rattle.forms.specs.declared.Tell.{Tell}
use Rattle.forms.specs.declared.Request.{Request}
use Rattle.store.specs.declared.Unit.{Unit}
use Rattle.store.specs.Vital.{vital_data}
use Rattle.store.specs.Tell.{told, tell_rows}
use Rattle.reply.specs.Reply.{Replied, reply_of}
use Rattle.reply.specs.Cut.{gives}

-- a command that tells
abbrev pub tells : Tell → Request → Unit → List ℕ → Replied
tells t q u data_in = reply_of (first (tell_rows t q u data_in)) (told t q u) data_in

-- a page of vital product data where n is the allocation length
unfoldable pub tells_page : ℕ → ℕ → List ℕ → Replied
tells_page code n data_in = gives (take n (vital_data code)) data_in
