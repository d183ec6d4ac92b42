-- The number and place of each refusal, and what a result says in the model's terms.
use Rattle.std.specs.Prelude.{ℕ, Result, Ok, Err}
use Rattle.model.specs.Refusal.{Finding, clear, refusal as found}
use Rattle.model.specs.Answer.{Answer, refused, given}
use Rattle.refusals.specs.declared.Refusal.{Refusal}
use Rattle.refusals.specs.declared.Refusal.TheVariants.{ShortSheet, KindCount, CodeCount, LineCount, FieldCount, LinesOffset, FieldsOffset, Total, ByteCount, LineKind, LineCode, NoNorm, LargeNorm, FirstNumber, SecondNumber, ShortBuffer, RoundLimit, ManyTokens, NumberAtSize, Desk, EmptySquad, ManyFields}

-- "the first that applies is given with its place": the number of the table's row.
abbrev pub number_of : Refusal → ℕ
number_of ShortSheet = 1
number_of KindCount = 2
number_of CodeCount = 3
number_of LineCount = 4
number_of FieldCount = 5
number_of LinesOffset = 6
number_of FieldsOffset = 6
number_of Total = 6
number_of ByteCount = 6
number_of (LineKind j) = 7
number_of (LineCode j) = 8
number_of (NoNorm k) = 9
number_of (LargeNorm k) = 10
number_of FirstNumber = 11
number_of SecondNumber = 11
number_of ShortBuffer = 12
number_of RoundLimit = 13
number_of ManyTokens = 14
number_of NumberAtSize = 15
number_of Desk = 16
number_of EmptySquad = 17
number_of ManyFields = 18

-- Its place: a line, a kind, or which of the row's it is.
abbrev pub place_of : Refusal → ℕ
place_of ShortSheet = 0
place_of KindCount = 0
place_of CodeCount = 0
place_of LineCount = 0
place_of FieldCount = 0
place_of LinesOffset = 0
place_of FieldsOffset = 1
place_of Total = 2
place_of ByteCount = 3
place_of (LineKind j) = j
place_of (LineCode j) = j
place_of (NoNorm k) = k
place_of (LargeNorm k) = k
place_of FirstNumber = 0
place_of SecondNumber = 1
place_of ShortBuffer = 0
place_of RoundLimit = 0
place_of ManyTokens = 0
place_of NumberAtSize = 0
place_of Desk = 0
place_of EmptySquad = 1
place_of ManyFields = 0

-- What checks that came to a result found: nothing, or its refusal.
abbrev pub finding_of : {A : Type 0} → Result A Refusal → Finding
finding_of (Ok x) = clear
finding_of (Err e) = found (number_of e) (place_of e)

-- What a result answers, where f says what its value stands for: that, or its refusal.
abbrev pub answer_of : {A B : Type 0} → (A → B) → Result A Refusal → Answer B
answer_of f (Ok x) = given (f x)
answer_of f (Err e) = refused (number_of e) (place_of e)
