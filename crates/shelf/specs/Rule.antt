-- The addition rule as a test of a whole table, of "k from 0 to 32 kinds and t from 0 to 16 tokens".
use Rattle.std.specs.Prelude.{Bool, List, ℕ, zero, suc, ◌+◌, ◌*◌, eqb, get_or}
use Rattle.model.specs.Finite.{all, below}
use Rattle.model.specs.Limits.{most_kinds, most_tokens}

-- 33 rows of 17 entries, one after another.
abbrev pub table_entry : List ℕ → ℕ → ℕ → ℕ
table_entry table k t = get_or table (k * suc most_tokens + t) 0

-- What the rule asks of an entry, by those before it: "1 at (0, 0), 0 at (0, t) for t above 0, else the entry for k - 1 and t plus, for t above 0, the entry for k and t - 1".
unfoldable pub ruled : List ℕ → ℕ → ℕ → ℕ
ruled table zero zero = 1
ruled table zero (suc t) = 0
ruled table (suc k) zero = table_entry table k zero
ruled table (suc k) (suc t) = table_entry table k (suc t) + table_entry table (suc k) t

-- Whether every entry of a table is what the rule asks of it.
unfoldable pub obeys_rule : List ℕ → Bool
obeys_rule table = all (λ k. all (λ t. eqb (table_entry table k t) (ruled table k t)) (below (suc most_tokens))) (below (suc most_kinds))
