-- The hash of a value, by what its type writes of it.
use Rattle.std.specs.Prelude.{◌≡◌, ℕ, fold}
use Rattle.std.specs.Hash.{HashWrites}
use Rattle.std.specs.Hash.DefaultHasher.{initial, write, finish}

-- what a `DefaultHasher` gives after these writes
abbrev pub default_hash : HashWrites → ℕ
default_hash writes = finish (fold write initial writes)

-- two values of which this is written have the same hash
abbrev pub SameHash : {A : Type 0} → (A → HashWrites) → A → A → Type 0
SameHash written a b = default_hash (written a) ≡ default_hash (written b)
