-- The bounds of the registrations.
-- Assumes nothing.
use Rattle.std.specs.Prelude.{ℕ}

-- "nexus numbers 0 to 15"
abbrev pub last_nexus : ℕ
last_nexus = 15

-- Q-6: "each of the 16 nexuses"
abbrev pub nexuses : ℕ
nexuses = 16

-- "registration places 8"
abbrev pub registration_places : ℕ
registration_places = 8
