-- What the model's terms mean, proved as the model states it.
use mathlib.Core.List.{List, ◌∷◌}
use mathlib.Core.Logic.{◌↔◌}
use mathlib.Core.Path.{refl, ◌∙◌}
use Prim.Native.Nat.{◌<◌}
use Rattle.model.specs.Field.{Field}
use Rattle.model.specs.Card.{Line, Card, fire}
use Rattle.theory.specs.Expansion.{Bisimulation, StepBisimulation}
use Rattle.theory.specs.Game.{Side, first, second, side_of, Challenge, Strategy, Turn, Answered}
use Rattle.model.specs.Sense.{Sense, plain, finer}
use Rattle.theory.specs.FinerGame.{FinerAnswered, AnsweredIn}
use Rattle.theory.specs.Meanings.{Games, Meanings}
use Rattle.theory.proofs.FinerPlays.{answered_total, parted_not_in, parts_in}
use Rattle.theory.proofs.Sheets.{firsts, sheet_reaches}
use Rattle.theory.proofs.Used.{used}
use Rattle.theory.proofs.Part.{parts}
use Rattle.theory.proofs.Gain.{sheet_norms}
use Rattle.theory.proofs.Headers.{headers}
use Rattle.theory.proofs.Places.{sheet_places}
use Rattle.theory.proofs.Walks.{walks}
use Rattle.theory.proofs.Days.{days}
use Rattle.theory.proofs.Decimals.{decimals}
use Rattle.theory.proofs.Pages.{pages}
use Rattle.theory.proofs.Widths.{widths}
use Rattle.theory.proofs.Shelves.{shelves, entries_fit}
use Rattle.theory.proofs.Squads.{squads}
use Rattle.theory.proofs.Frequencies.{frequencies_claims}
use Rattle.theory.proofs.Since.{sheet_sinces}
use Rattle.theory.proofs.Finer.{totals, finer_claims}
use Rattle.theory.proofs.Settling.{sheet_settles, sheet_primes}

turn_passed : (c : Card) (l m : Line) (P : Field → Field → Type 0) (s : Side) (a b : Field) → ¬ (0 < side_of s a b l.kind) → Turn c s l m a b P ↔ P a b
turn_passed c l m P first a b n = ((λ t. t.1 n), (λ p. ((λ u. absurd (n u)), λ _. p)))
turn_passed c l m P second a b n = ((λ t. t.1 n), (λ p. ((λ u. absurd (n u)), λ _. p)))

plain_passed : (c : Card) (f : Strategy c) (K : Field → Field → Type 0) (past hs : List (Challenge c)) (h : Challenge c) (a b : Field)
    → ¬ (0 < side_of h.side a b h.line.kind) → Answered c f K past (h ∷ hs) a b ↔ Answered c f K (h ∷ past) hs a b
unfolding Answered
plain_passed c f K past hs h a b n = turn_passed c h.line (f past h) (Answered c f K (h ∷ past) hs) h.side a b n

finer_passed : (c : Card) (f : Strategy c) (K : Field → Field → Type 0) (past hs : List (Challenge c)) (h : Challenge c) (a b : Field)
    → ¬ (0 < side_of h.side a b h.line.kind) → FinerAnswered c f K past (h ∷ hs) a b ↔ FinerAnswered c f K (h ∷ past) hs a b
unfolding FinerAnswered
finer_passed c f K past hs h a b n =
    let t = turn_passed c h.line (f past h) (FinerAnswered c f K (h ∷ past) hs) h.side a b n in
    ((λ x. t.0 x.1), (λ x. (answered_total c f K (h ∷ past) hs a b x, t.1 x)))

passed : (m : Sense) (c : Card) (f : Strategy c) (K : Field → Field → Type 0) (past hs : List (Challenge c)) (h : Challenge c) (a b : Field)
    → ¬ (0 < side_of h.side a b h.line.kind) → AnsweredIn m c f K past (h ∷ hs) a b ↔ AnsweredIn m c f K (h ∷ past) hs a b
passed plain = plain_passed
passed finer = finer_passed

games : (m : Sense) (c : Card) → Games m c
games m c = record { passed_over = passed m c; parted_iff = λ r a b. (parted_not_in m c r a b, parts_in m c r a b) }

-- Steps answered, read by read.
steps {ℓ} : (L : Line → Type 0) (R : Field → Field → Type ℓ) → Bisimulation L R ↔ StepBisimulation L R
steps L R = (
  (λ B a b p. (
    (λ c x t.
        let r = (B a b p).0 t.line t.on t.can in
        (fire r.line b, record { line = r.line; on = r.on; can = r.can; reads = r.same ∙ t.reads; goes = refl }, rw (← t.goes) r.rel)),
    (λ c y t.
        let r = (B a b p).1 t.line t.on t.can in
        (fire r.line a, record { line = r.line; on = r.on; can = r.can; reads = r.same ∙ t.reads; goes = refl }, rw (← t.goes) r.rel)),
  )),
  (λ B a b p. (
    (λ l o h.
        let r = (B a b p).0 l.code (fire l a) (record { line = l; on = o; can = h; reads = refl; goes = refl }) in
        let t = r.1 in
        record { line = t.line; on = t.on; can = t.can; same = t.reads; rel = rw t.goes r.2 }),
    (λ l o h.
        let r = (B a b p).1 l.code (fire l b) (record { line = l; on = o; can = h; reads = refl; goes = refl }) in
        let t = r.1 in
        record { line = t.line; on = t.on; can = t.can; same = t.reads; rel = rw t.goes r.2 }),
  )),
)

pub meanings {ℓ} : Meanings {ℓ}
meanings = record { firsts = firsts; headers = headers; places = sheet_places; reaches = sheet_reaches; used = used; parts = parts; norms = sheet_norms; steps = steps; games = games; walks = walks; settles = sheet_settles; primes = λ m s ok. sheet_primes m s ok; decimals = decimals; pages = pages; widths = widths; days = days; shelves = shelves; entries_fit = entries_fit; squads = λ s ok i j. squads s ok i j; frequencies = λ s ok i t. frequencies_claims s ok i t; sinces = λ m s ok. sheet_sinces m s ok; totals = totals; finer = finer_claims }
