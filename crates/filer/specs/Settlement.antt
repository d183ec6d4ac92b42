-- A sheet that was checked and settled once, and the table that Settle writes.
use Rattle.std.specs.Prelude.{List, Result, Ok, Err, ◌≡◌, ℕ, ◌*◌, ◌/◌, ◌%◌}
use Rattle.model.specs.Sense.{Sense}
use Rattle.model.specs.Finite.{list_from}
use Rattle.model.specs.Refusal.{refusal, first_of, accept_checks}
use Rattle.refusals.specs.declared.Refusal.{Refusal}
use Rattle.refusals.specs.Refusals.{number_of, place_of}
use Rattle.norms.specs.Norms.{Accepts}
use Rattle.tables.specs.Table.{row_in}
use Rattle.stages.specs.Settle.{IsSettled}
use Rattle.filer.specs.declared.settlement.Settlement.{Settlement}

-- Of an accepted sheet: its card and norms; its settled stage in a sense, its final base, and what is kept of the stages.
pub record IsSettlement (sense : Sense) (s : List ℕ) (x : Settlement) : Type 0 where
  pub accepts : Accepts s x.card x.norms
  pub settled_is : IsSettled sense s x.settled

-- What the checks 1 to 10 of the bytes come to: that, or the first refusal.
abbrev pub SettlementIs : Sense → List ℕ → Result Settlement Refusal → Type 0
SettlementIs sense s (Ok x) = IsSettlement sense s x
SettlementIs sense s (Err e) = first_of (accept_checks s) ≡ refusal (number_of e) (place_of e)

-- "row by row in kind number, n × n of them": entry i is count i % n of row i / n.
unfoldable pub table_in : ℕ → List ℕ → List ℕ
table_in n rows = list_from (λ i. row_in rows (i / n) (i % n)) 0 (n * n)
