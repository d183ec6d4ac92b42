-- The first n counts of each array are a prime form.
use borrow.Author.Rules.{rules}
use mathlib.Core.Path.{◌≡◌, sym, ◌∙◌, ap}
use Prim.Native.Nat.{ℕ, ◌≤◌}
use native.Mathlib.Omega.{arith}
use lib.ListN.{length, take}
use lib.Seq.{length-take-le}
use Rattle.model.specs.Sense.{plain}
use Rattle.model.specs.Answer.{prime_form}
use Rattle.sheet.proofs.Laws.{kinds_are, kinds_most}
use Rattle.squads.proofs.Calls.{can_divide, divides}
use Rattle.squads.proofs.entry.divide_forms.Goals as goal
use Rattle.squads.proofs.entry.divide_forms.Goals.{After-prime_counts-of_squad}

-- Both arrays have a count for each kind of the card.
whole_long : (c : After-prime_counts-of_squad) → c.args.card.kinds ≤ length c.prime_counts-of_whole.result
whole_long c = let e : length c.prime_counts-of_whole.result ≡ 32 = search rules in omega (arith, kinds_most c.requires.reads.0)

squad_long : (c : After-prime_counts-of_squad) → c.args.card.kinds ≤ length c.prime_counts-of_squad.result
squad_long c = let e : length c.prime_counts-of_squad.result ≡ 32 = search rules in omega (arith, kinds_most c.requires.reads.0)

-- They begin with the prime forms.
whole_form : (c : After-prime_counts-of_squad) → take c.args.card.kinds c.prime_counts-of_whole.result ≡ prime_form c.args.sheet.now c.args.whole
whole_form c = ap (λ (n : ℕ). take n c.prime_counts-of_whole.result) (kinds_are c.requires.reads.0) ∙ c.prime_counts-of_whole.ensures plain c.requires.base_at

squad_form : (c : After-prime_counts-of_squad) → take c.args.card.kinds c.prime_counts-of_squad.result ≡ prime_form c.args.sheet.now c.args.squad
squad_form c = ap (λ (n : ℕ). take n c.prime_counts-of_squad.result) (kinds_are c.requires.reads.0) ∙ c.prime_counts-of_squad.ensures plain c.requires.base_at

pub slice_bounds-of_whole-end : goal.slice_bounds-of_whole-end
slice_bounds-of_whole-end c = whole_long (goal.at.slice_bounds-of_whole-end c).After-prime_counts-of_squad

pub slice_bounds-divide-end : goal.slice_bounds-divide-end
slice_bounds-divide-end c = sym (length-take-le _ _ (whole_long (goal.at.slice_bounds-divide-end c).After-prime_counts-of_squad))

pub slice_bounds-of_squad-end : goal.slice_bounds-of_squad-end
slice_bounds-of_squad-end c = squad_long (goal.at.slice_bounds-of_squad-end c).After-prime_counts-of_squad

pub slice_bounds-divide-end-2 : goal.slice_bounds-divide-end-2
slice_bounds-divide-end-2 c = sym (length-take-le _ _ (squad_long (goal.at.slice_bounds-divide-end-2 c).After-prime_counts-of_squad))

pub divide-requires : goal.divide-requires
divide-requires c =
    let can = can_divide c.args.sheet.now c.args.whole c.args.squad _ _ (whole_form (goal.at.divide-requires c).After-prime_counts-of_squad) (squad_form (goal.at.divide-requires c).After-prime_counts-of_squad) c.requires.reads.1 c.requires.nonzero _ c.requires.sheet_in_bounds in
    record { whole_len = can.0; nonzero = can.1.0; whole_in_bounds = can.1.1 }

pub returns : goal.returns
returns c =
    let g = divides c.args.sheet.now c.args.whole c.args.squad _ _ (whole_form (goal.at.returns c).After-prime_counts-of_squad) (squad_form (goal.at.returns c).After-prime_counts-of_squad) _ _ _ c.divide.ensures.value c.divide.ensures.buffer_after in
    record { value = g.0; remainder_after = g.1 }
