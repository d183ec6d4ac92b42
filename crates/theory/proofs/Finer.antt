-- What is claimed of the finer comparison, proved.
use mathlib.Core.List.{List}
use mathlib.Core.Path.{◌≡◌, refl, ◌∙◌}
use Prim.Native.Nat.{ℕ, zero, suc, ◌<◌}
use native.Mathlib.Omega.{arith}
use Rattle.model.specs.Finite.{list_from, sum}
use Rattle.model.specs.Field.{Field, weigh_from}
use Rattle.model.specs.Card.{Card, On}
use Rattle.model.specs.Sense.{plain, finer}
use Rattle.model.specs.Sheet.{field_count, card_of, field_of}
use Rattle.model.specs.Limits.{Limits}
use Rattle.model.specs.Refusal.{Finding, clear, refusal, first_of, compare_checks}
use Rattle.model.specs.Answer.{Answer, refused, given, Verdict, same, compare_in, compare_of, finer_compare_of}
use Rattle.theory.specs.Expansion.{Bisimilar, FinerBisimilar}
use Rattle.theory.specs.FinerGame.{at_once}
use Rattle.theory.specs.Finer.{Totals, Finer}
use Rattle.theory.proofs.Field.{weigh_front}
use Rattle.theory.proofs.Limits.{limits_accepted}
use Rattle.theory.proofs.Sheets.{certified}
use Rattle.theory.proofs.Taken.{compare_taken}
use Rattle.theory.proofs.FinerPlays.{parted_total, parted_not_in, answered_total}
use Rattle.theory.proofs.FinerRows.{finer_row}
use Rattle.theory.proofs.Verdicts.{demand2}

-- What is answered was not refused.
not_refused : (f : Finding) (x y : Verdict) → (elim f as (λ _. Answer Verdict) [ clear ↦ given x | refusal k p ↦ refused k p ]) ≡ given y → f ≡ clear
not_refused clear x y e = refl
not_refused (refusal k p) x y e = let z : ◌≡◌ {A = ℕ} 0 1 = cc in absurd (omega arith)

-- A bisimulation whose pairs have equal totals is one.
finer_bisimilar {ℓ} : (c : Card) (a b : Field) → FinerBisimilar {ℓ} c a b → Bisimilar {ℓ} (On c) a b
unfolding FinerBisimilar Bisimilar
finer_bisimilar c a b x = (x.0, x.1, x.3)

finer_same : (s : List ℕ) (i j : ℕ) → finer_compare_of s i j ≡ given same → compare_of s i j ≡ given same
unfolding compare_in
finer_same s i j e = go ((compare_taken s i j).0 (not_refused (first_of (compare_checks s i j)) _ same e)) e
  where
    go : Limits s × (i < field_count s) × (j < field_count s) → finer_compare_of s i j ≡ given same → compare_of s i j ≡ given same
    go p e =
        let ok = limits_accepted s p.0 in
        (demand2 {0} plain s ok i j p.1 p.2).same_means.1
        (finer_bisimilar (card_of s) (field_of s i) (field_of s j) ((demand2 {0} finer s ok i j p.1 p.2).same_means.0 e))

-- A sum of counts, the first kind first, is that of their list.
from_sum : (i m : ℕ) (a : Field) → weigh_from i m (λ _. 1) a ≡ sum (list_from a i m)
unfolding weigh_from list_from sum
from_sum i zero a = refl
from_sum i (suc m) a = omega (arith, from_sum (suc i) m a)

pub totals : (c : Card) → Totals c
totals c = record {
  adds = λ a. weigh_front c.kinds (λ _. 1) a ∙ from_sum 0 c.kinds a;
  parted = parted_total c;
  parting = λ a b n. at_once n;
  held = λ r a b n. parted_not_in finer c r a b (parted_total c r a b n);
  answered = λ f K past hs a b n x. n (answered_total c f K past hs a b x);
}

pub finer_claims : (s : List ℕ) → Finer s
finer_claims s = record {
  finer_same = finer_same s;
  one_token = λ ok q k h. let r = finer_row (card_of s) (certified s ok) q k h in (r.0, r.2);
}
