-- The table of verbs.
use Rattle.std.specs.Prelude.{true, false, Option, Some, None, List, [], ◌∷◌, ℕ}
use Prim.Native.String.{String}
use Rattle.model.specs.Page.{bytes}
use Rattle.words.specs.Words.{same_word}
use Rattle.queries.specs.declared.table.Verb.{Verb}
use Rattle.queries.specs.declared.table.Verb.TheVariants.{Settle, Row, Compare, Form, Walk, Number, Field, Squads, Finer, FinerForm, Common}

-- A verb and the word for it.
pub record Named : Type 0 where
  pub name : String
  pub verb : Verb

abbrev pub named : String → Verb → Named
named name verb = record { name = name; verb = verb }

-- The table.
unfoldable pub verbs : List Named
verbs =
    named "settle" Settle ∷ named "row" Row ∷ named "compare" Compare ∷ named "form" Form ∷ named "walk" Walk
    ∷ named "number" Number ∷ named "field" Field ∷ named "squads" Squads ∷ named "finer" Finer ∷ named "finer-form" FinerForm
    ∷ named "common" Common ∷ []

-- The verb that a word is: the first of a list with that name.
unfoldable pub verb_in : List Named → List ℕ → Option Verb
verb_in [] word = None
verb_in (x ∷ xs) word = elim (same_word word (bytes x.name)) [ true ↦ Some x.verb | false ↦ verb_in xs word ]

unfoldable pub verb_of : List ℕ → Option Verb
verb_of word = verb_in verbs word
