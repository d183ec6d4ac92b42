-- The table of entries and its text, from the model's definition of an entry.
use Rattle.std.specs.Prelude.{List, ◌++◌, map, ℕ}
use Rattle.model.specs.Finite.{concat, list_from}
use Rattle.model.specs.Page.{bytes, number}
use Rattle.model.specs.Shelf.{entry}

-- The entries for k kinds and "t from 0 to 16 tokens": a row of the table.
unfoldable pub entries_of : ℕ → List ℕ
entries_of k = list_from (entry k) 0 17

-- An entry as a line of the source.
unfoldable pub entry_line : ℕ → List ℕ
entry_line x = bytes "    " ++ number x ++ bytes ",\n"

-- The lines of entries, one after another.
unfoldable pub entry_lines : List ℕ → List ℕ
entry_lines xs = concat (map entry_line xs)

-- The lines of the entries for k kinds.
unfoldable pub row_text : ℕ → List ℕ
row_text k = entry_lines (entries_of k)

-- The lines of the entries for 0 kinds, for 1, and so on: n rows.
unfoldable pub row_texts : ℕ → List ℕ
row_texts n = concat (list_from row_text 0 n)

-- "A generator program prints the 561 entries, and its output is the table in the source": the whole output, "for k from 0 to 32 kinds".
unfoldable pub table_text : List ℕ
table_text =
    bytes "// How many fields there are of t tokens of k kinds, for k from 0 to 32 and t from 0 to 16: entry 17 * k + t. The program `entries` prints this file.\npub const TABLE: [u64; 561] = [\n"
    ++ row_texts 33 ++ bytes "];\n"
