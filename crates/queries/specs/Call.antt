-- The calls of the code, by their names.
use Rattle.std.specs.Prelude.{Option, List, ℕ}
use Rattle.std.specs.List.{find}
use Rattle.words.specs.Words.{same_word}
use Rattle.queries.specs.declared.table.Call.{Call}

-- The first that a word is the name of.
unfoldable pub first_call : List ℕ → List Call → Option Call
first_call word calls = find (λ call. same_word word call.name.now) calls
