-- From the words to the text: a verb and the numbers that it takes.
use Rattle.std.specs.Prelude.{Option, Some, None, List, [], ◌∷◌, ℕ}
use Rattle.words.specs.Words.{numbers_of, words_of}
use Rattle.replies.specs.Told.{Told, no_call}
use Rattle.verbs.specs.Calls.{settle_told, row_told, compare_told, form_told, finer_told, finer_form_told}
use Rattle.walk_verb.specs.Calls.{walk_told}
use Rattle.shelf_verbs.specs.Calls.{number_told, field_told}
use Rattle.squads_verb.specs.Calls.{squads_told}
use Rattle.frequencies_verb.specs.Calls.{common_told}
use Rattle.queries.specs.Verb.{verb_of}
use Rattle.queries.specs.declared.table.Verb.{Verb}
use Rattle.queries.specs.declared.table.Verb.TheVariants.{Settle, Row, Compare, Form, Walk, Number, Field, Squads, Finer, FinerForm, Common}

-- What the call of each verb, with its numbers, comes to.
unfoldable pub verb_told : List ℕ → Verb → List ℕ → Told
verb_told s Settle = settle_told s
verb_told s Row = row_told s
verb_told s Compare = compare_told s
verb_told s Form = form_told s
verb_told s Walk = walk_told s
verb_told s Number = number_told s
verb_told s Field = field_told s
verb_told s Squads = squads_told s
verb_told s Finer = finer_told s
verb_told s FinerForm = finer_form_told s
verb_told s Common = common_told s

-- What a verb and the words after it come to: its call, where these words say numbers; otherwise it is no call.
unfoldable pub said_told : List ℕ → Option Verb → Option (List ℕ) → Told
said_told s (Some verb) (Some xs) = verb_told s verb xs
said_told s (Some verb) None = no_call
said_told s None said = no_call

-- The numbers that a call takes at most.
abbrev pub most_numbers : ℕ
most_numbers = 5

-- What words come to: a verb, and then numbers of 64 bits.
unfoldable pub words_told : List ℕ → List (List ℕ) → Told
words_told s [] = no_call
words_told s (verb ∷ more) = said_told s (verb_of verb) (numbers_of most_numbers more)

-- What a text of words comes to, of a sheet's bytes: the call that it asks for.
unfoldable pub query_of : List ℕ → List ℕ → Told
query_of s text = words_told s (words_of text)
