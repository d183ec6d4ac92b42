-- One sweep of the norm finder in parts: what the contracts of its own functions cite.
use Rattle.std.specs.Prelude.{List, ℕ, suc, min}
use Rattle.model.specs.Card.{reached_lines}
use Rattle.model.specs.Norm.{best}
use Rattle.model.specs.Sheet.{kind_count, counts, card_of}
use Rattle.model.specs.Limits.{norm_limit}
use Rattle.norms.specs.Norms.{array_of}

-- The values after one more sweep over the lines of reached kinds.
unfoldable pub sweep_of : List ℕ → (ℕ → ℕ) → List ℕ
sweep_of s w = array_of (counts (kind_count s) (λ k. min (best (kind_count s) w k (reached_lines (card_of s))) (suc norm_limit)))
