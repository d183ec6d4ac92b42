-- `put_sentence`: the name of the line or kind, then the words of the row; nothing where there is no row.
use mathlib.Core.Path.{ap}
use Prim.Native.Nat.{ℕ}
use native.Mathlib.Omega.{arith}
use mathlib.Core.List.{List, ◌++◌}
use lib.ListN.{length}
use Rattle.text.proofs.Append.{nothing, then, reads_as}
use Rattle.sentences.specs.Sentence.{Sentence, has, sentence_of, named}
use Rattle.sentences.proofs.Rows.{words_most}
use Rattle.sentences.proofs.sentence.put_sentence.Goals as goal

-- What is said of a place.
abbrev text_of : ℕ → Sentence → List ℕ
text_of p s = named s.places p ++ s.words

pub returns-in_default : goal.returns-in_default
unfolding sentence_of named
returns-in_default c = reads_as 80 (sentence_of c.args.number c.args.place) (nothing c.args.out.now c.args.at) (omega arith) (ap (text_of c.args.place) c.in_default.ensures)

pub put_bytes-requires : goal.put_bytes-requires
put_bytes-requires c =
    omega (arith, c.requires, c.put_place-next.ensures.ends, c.put_place-next.ensures.within, c.put_place-next.ensures.size, ap (λ (s : Sentence). length s.words) c.in-Some.ensures, words_most (has c.args.number c.args.place))

pub returns : goal.returns
unfolding sentence_of
returns c =
    reads_as 80 (sentence_of c.args.number c.args.place) (then c.put_place-next.ensures c.put_bytes.ensures)
    (omega (arith, ap (λ (s : Sentence). length s.words) c.in-Some.ensures, words_most (has c.args.number c.args.place))) (ap (text_of c.args.place) c.in-Some.ensures)
