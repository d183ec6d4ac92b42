-- The lines of kinds and fields over plain values: the page's lines are these, of the sheet's values.
use Rattle.std.specs.Prelude.{true, false, List, ◌++◌, ℕ, eqb}
use Rattle.model.specs.Finite.{concat, list_from}
use Rattle.model.specs.Field.{at}
use Rattle.model.specs.Answer.{row_of, prime_form}
use Rattle.model.specs.Page.{bytes, number, newline, counts_of, itself}

-- `kinds N stages S`: "\"stages\" is the settled stage".
unfoldable pub head_text : ℕ → ℕ → List ℕ
head_text kinds stage = bytes "kinds " ++ number kinds ++ bytes " stages " ++ number stage ++ newline

-- What a kind's line shows of its row: the word prime, or the counts after "=".
unfoldable pub row_text : ℕ → List ℕ → List ℕ
row_text kind row = elim (itself kind row) [ true ↦ bytes "prime" | false ↦ counts_of row ]

-- What a kind's line says after the kind, by a norm that is 0 for a kind that is out: `norm W`, "`since S` .., before the word prime or the equals sign" (request 9 of document 02) and what is shown of its row, or
-- "`kind I out`". "A kind that is out has no such mark."
unfoldable pub words_text : ℕ → ℕ → ℕ → List ℕ → List ℕ
words_text kind norm since row = elim (eqb norm 0) [ true ↦ bytes " out" | false ↦ bytes " norm " ++ number norm ++ bytes " since " ++ number since ++ bytes " " ++ row_text kind row ]

-- `kind K norm W since S prime`, `kind K norm W since S = COUNTS` or `kind K out`.
unfoldable pub kind_text : ℕ → ℕ → ℕ → List ℕ → List ℕ
kind_text kind norm since row = bytes "kind " ++ number kind ++ words_text kind norm since row ++ newline

-- `field I = COUNTS`.
unfoldable pub field_text : ℕ → List ℕ → List ℕ
field_text field form = bytes "field " ++ number field ++ bytes " " ++ counts_of form ++ newline

-- Kind k's line, by an array of norms, one of marks and a table of n × n counts; field i's line.
abbrev pub kind_at : ℕ → List ℕ → List ℕ → List ℕ → ℕ → List ℕ
kind_at n norms marks table k = kind_text k (at norms k) (at marks k) (row_of n k table)

abbrev pub field_at : List ℕ → ℕ → List ℕ
field_at s i = field_text i (prime_form s i)

-- The lines of n kinds, and of the first fields of a sheet, as many as `fields` says.
unfoldable pub kinds_text : ℕ → List ℕ → List ℕ → List ℕ → List ℕ
kinds_text n norms marks table = concat (list_from (kind_at n norms marks table) 0 n)

unfoldable pub fields_text : List ℕ → ℕ → List ℕ
fields_text s fields = concat (list_from (field_at s) 0 fields)
