-- A number of each id, by which most ids are known from others without their bytes. This is the project's own.
use Rattle.std.specs.{Prelude.{ℕ, List}, Hash.FoldHasher.{initial, write, finish}}

unfoldable pub id_hash : List ℕ → ℕ
id_hash id = finish (write initial id)
