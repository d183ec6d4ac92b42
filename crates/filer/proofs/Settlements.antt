-- What a sheet that was checked and settled once tells of each call.
use mathlib.Core.List.{List, ◌++◌}
use mathlib.Core.Path.{◌≡◌, sym, ◌∙◌, ap}
use Prim.Native.Nat.{ℕ, ◌*◌, ◌^◌, ◌≤◌, ◌<◌}
use native.Mathlib.Omega.{arith}
use lib.ListN.{length, take, drop}
use lib.Seq.{length-take-le, get_or-take}
use Rattle.std.specs.Prelude.{Result, Ok, Err}
use Rattle.model.specs.Sense.{Sense, plain}
use Rattle.model.specs.Norm.{kind_norm}
use Rattle.model.specs.Base.{settled_stage_in, rounds_at}
use Rattle.model.specs.Sheet.{kind_count, field_count, card_of, field_of}
use Rattle.model.specs.Field.{at}
use Rattle.model.specs.Refusal.{refusal, first_of, accept_checks, Accepted}
use Rattle.theory.specs.Widths.{Bytes}
use Rattle.model.specs.Answer.{Answer, refused, given, LentMarks, same, different, settle_of, settle_since_of, compare_in, prime_form_in, forming_in, written}
use Rattle.refusals.specs.declared.Refusal.{Refusal}
use Rattle.refusals.specs.Refusals.{number_of, place_of}
use Rattle.validation.specs.Fields.{field_checks}
use Rattle.sheet.proofs.Laws.{kinds_are, fields_are}
use Rattle.stages.specs.Parting.{parted_by}
use Rattle.stages.proofs.Outcomes.{settled_marks, compare_different, compare_same}
use Rattle.filer.specs.declared.settlement.Settlement.{Settlement}
use Rattle.filer.specs.Settlement.{IsSettlement, SettlementIs, table_in}
use Rattle.theory.proofs.Told.{gives}
use Rattle.filer.proofs.Calls.{settle_refused, since_refused, compare_refused, fields_large, form_refused, table_short, since_table_short, since_marks_short, no_field, buffer_short, settle_given, marks_small, since_given, form_given, rounds_fit}

module _ {sense : Sense} {s : List ℕ} {x : Settlement} (X : IsSettlement sense s x) where
  ok : Accepted s
  ok = X.accepts.accepted

  kinds : x.card.kinds ≡ kind_count s
  kinds = kinds_are X.accepts.reads

  fields : x.card.fields ≡ field_count s
  fields = fields_are X.accepts.reads

  -- The checks of the two field numbers refuse.
  pub compare_refuses : (i j k p : ℕ) → refusal k p ≡ first_of (field_checks x.card.fields i j) → refused k p ≡ compare_in sense s i j
  compare_refuses i j k p e = sym (fields_large s ok sense i j k p (rw fields at (sym e)))

  -- Compare, from the least stage that parts the two.
  module _ (i j : ℕ) (h : i < x.card.fields) (l : j < x.card.fields) (d : ℕ) (p : d ≡ parted_by sense s (settled_stage_in sense (card_of s)) i j) where
    pub compare_same_called : x.settled.stage < d → given same ≡ compare_in sense s i j
    compare_same_called u = sym (compare_same sense s ok i j (rw fields at h) (rw fields at l) d p (rw X.settled_is.stage_is at u))

    module _ (u : d ≤ x.settled.stage) where
      parted : compare_in sense s i j ≡ given (different d (rounds_at (card_of s) (kind_norm (card_of s)) d (field_of s i) (field_of s j)))
      parted = compare_different sense s ok i j (rw fields at h) (rw fields at l) d p (rw X.settled_is.stage_is at u)

      pub compare_rounds_fit : Bytes s → rounds_at (card_of s) (kind_norm (card_of s)) d (field_of s i) (field_of s j) < 2 ^ 64
      compare_rounds_fit bytes = rounds_fit s ok bytes sense i j _ _ (rw fields at h) (rw fields at l) parted

      pub compare_different_called : (r : ℕ) → r ≡ rounds_at (card_of s) (kind_norm (card_of s)) d (field_of s i) (field_of s j) → given (different d r) ≡ compare_in sense s i j
      compare_different_called r q = ap (λ (n : ℕ). given (different d n)) q ∙ sym parted

  -- Prime form.
  module _ (i : ℕ) (buffer : List ℕ) where
    pub form_no_field : x.card.fields ≤ i → (refused 11 0 ≡ (forming_in sense s i buffer).answer) × (buffer ≡ (forming_in sense s i buffer).lent)
    form_no_field h = gives (no_field s ok sense i buffer (rw fields at h))

    module _ (h : i < x.card.fields) where
      pub form_short : length buffer < x.card.kinds → (refused 12 0 ≡ (forming_in sense s i buffer).answer) × (buffer ≡ (forming_in sense s i buffer).lent)
      form_short l = gives (buffer_short s ok sense i buffer (rw fields at h) (rw kinds at l))

      pub form_writes : (form after : List ℕ) → x.card.kinds ≤ length buffer → take (kind_count s) form ≡ prime_form_in sense s i → after ≡ written (take x.card.kinds form) buffer
          → (given tt ≡ (forming_in sense s i buffer).answer) × (after ≡ (forming_in sense s i buffer).lent)
      form_writes form after l f w =
          let g = gives (form_given s ok sense i (take x.card.kinds form) buffer (rw fields at h) (rw kinds at l) (rw kinds f)) in
          (g.0, w ∙ g.1)

-- Settle, which speaks of the plain sense alone.
module _ {s : List ℕ} {x : Settlement} (X : IsSettlement plain s x) (table : List ℕ) where
  pub settle_short : length table < x.card.kinds * x.card.kinds → (refused 12 0 ≡ (settle_of s table).answer) × (table ≡ (settle_of s table).lent)
  settle_short h = gives (table_short s (ok X) table (rw (kinds X) at h))

  pub settle_writes : (after : List ℕ) → x.card.kinds * x.card.kinds ≤ length table → after ≡ written (table_in x.card.kinds x.settled.base.rows) table
      → (given x.settled.stage ≡ (settle_of s table).answer) × (after ≡ (settle_of s table).lent)
  settle_writes after h w =
      let S = X.settled_is in
      let g = gives (settle_given s (ok X) x.settled.base.rows table S.base_is (rw (kinds X) at h)) in
      (ap given S.stage_is ∙ g.0, w ∙ ap (λ (n : ℕ). written (table_in n x.settled.base.rows) table) (kinds X) ∙ g.1)

-- The marks of the card's kinds fit 32 bits.
pub marks_fit : {s : List ℕ} {x : Settlement} (X : IsSettlement plain s x) → x.card.kinds ≤ length x.settled.base.since → Bytes s
    → (k : ℕ) → k < length (take x.card.kinds x.settled.base.since) → at (take x.card.kinds x.settled.base.since) k < 2 ^ 32
marks_fit {s} {x} X long bytes k l =
    let u : k < x.card.kinds = omega (arith, length-take-le x.card.kinds x.settled.base.since long) in
    let small = marks_small s (ok X) x.settled.base.since (rw (kinds X) at long) (settled_marks plain s (ok X) X.settled_is) bytes k (omega (arith, kinds X)) in
    omega (arith, get_or-take x.card.kinds x.settled.base.since k 0 u, small)

-- What a contract asks of the call with the marks, from what it comes to.
marked_gives : {x y : LentMarks ℕ} → x ≡ y → (y.answer ≡ x.answer) × ((y.table ≡ x.table) × (y.marks ≡ x.marks))
marked_gives e = (ap (λ (z : LentMarks ℕ). z.answer) (sym e), (ap (λ (z : LentMarks ℕ). z.table) (sym e), ap (λ (z : LentMarks ℕ). z.marks) (sym e)))

-- What the contract of Settle with the marks says of an answer and of what is left in the two.
abbrev Tells : (s table marks : List ℕ) → Answer ℕ → List ℕ → List ℕ → Type 0
Tells s table marks answer after marked = (answer ≡ (settle_since_of s table marks).answer) × ((after ≡ (settle_since_of s table marks).table) × (marked ≡ (settle_since_of s table marks).marks))

-- Settle with the marks, of the plain sense too.
module _ {s : List ℕ} {x : Settlement} (X : IsSettlement plain s x) (table marks : List ℕ) where
  pub table_too_short : length table < x.card.kinds * x.card.kinds → Tells s table marks (refused 12 0) table marks
  table_too_short h = marked_gives (since_table_short s (ok X) table marks (rw (kinds X) at h))

  module _ (h : x.card.kinds * x.card.kinds ≤ length table) where
    pub marks_too_short : length marks < x.card.kinds → Tells s table marks (refused 12 0) table marks
    marks_too_short l = marked_gives (since_marks_short s (ok X) table marks (rw (kinds X) at h) (rw (kinds X) at l))

    pub since_writes : (after marked : List ℕ) → x.card.kinds ≤ length x.settled.base.since → x.card.kinds ≤ length marks → after ≡ written (table_in x.card.kinds x.settled.base.rows) table
        → marked ≡ written (take x.card.kinds x.settled.base.since) marks → Tells s table marks (given x.settled.stage) after marked
    since_writes after marked long l w v =
        let S = X.settled_is in
        let g = marked_gives (since_given s (ok X) x.settled.base.since (rw (kinds X) at long) (settled_marks plain s (ok X) S) x.settled.base.rows table marks S.base_is (rw (kinds X) at h) (rw (kinds X) at l)) in (
          ap given S.stage_is ∙ g.0,
          (
            w ∙ ap (λ (n : ℕ). written (table_in n x.settled.base.rows) table) (kinds X) ∙ g.1.0,
            v ∙ ap (λ (n : ℕ). written (take n x.settled.base.since) marks) (kinds X) ∙ g.1.1,
          ),
        )

-- What is settled, by what the checks came to.
module _ (sense : Sense) (s : List ℕ) {r : Result Settlement Refusal} where
  pub settled_here : {x : Settlement} → r ≡ Ok x → SettlementIs sense s r → IsSettlement sense s x
  settled_here e S = rw e at S

  pub settled_refused : {e : Refusal} → r ≡ Err e → SettlementIs sense s r → first_of (accept_checks s) ≡ refusal (number_of e) (place_of e)
  settled_refused e S = rw e at S

-- Where the sheet is refused, so is every call.
module _ (s : List ℕ) (k p : ℕ) (e : first_of (accept_checks s) ≡ refusal k p) where
  pub compare_refuses_sheet : (sense : Sense) (i j : ℕ) → refused k p ≡ compare_in sense s i j
  compare_refuses_sheet sense i j = sym (compare_refused s k p e sense i j)

  pub form_refuses_sheet : (sense : Sense) (i : ℕ) (buffer : List ℕ) → (refused k p ≡ (forming_in sense s i buffer).answer) × (buffer ≡ (forming_in sense s i buffer).lent)
  form_refuses_sheet sense i buffer = gives (form_refused s k p e sense i buffer)

  pub settle_refuses_sheet : (table : List ℕ) → (refused k p ≡ (settle_of s table).answer) × (table ≡ (settle_of s table).lent)
  settle_refuses_sheet table = gives (settle_refused s k p e table)

  pub since_refuses_sheet : (table marks : List ℕ) → Tells s table marks (refused k p) table marks
  since_refuses_sheet table marks = marked_gives (since_refused s k p e table marks)

-- What a copy leaves in a lent buffer.
pub copied : (xs buffer after : List ℕ) → after ≡ xs ++ drop (length xs) buffer → after ≡ written xs buffer
unfolding written
copied xs buffer after e = e
