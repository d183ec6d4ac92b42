-- A card with norms that its lines bear out, of the reached kinds, is normed.
use mathlib.Core.Path.{◌≡◌}
use mathlib.Core.List.{List, Memᴰ}
use Prim.Native.Nat.{ℕ, suc, ◌+◌, ◌≤◌, ◌<◌}
use native.Mathlib.Omega.{arith}
use Rattle.model.specs.Field.{weigh}
use Rattle.model.specs.Card.{Line, Card, On, leads, Reached, reached_lines}
use Rattle.model.specs.Norm.{gain_of}
use Rattle.theory.specs.Meanings.{Reaches}
use Rattle.theory.proofs.Normed.{Normed}
use Rattle.theory.specs.Terms.{OnReached}

pub gain_most : (n : ℕ) (w : ℕ → ℕ) (l : Line) {ls : List Line} → Memᴰ l ls → weigh n w l.left ≤ w l.kind + gain_of n w ls
unfolding gain_of
gain_most n w l (Memᴰ.head {x = x} e) = rw e (omega arith)
gain_most n w l (Memᴰ.tail m) = omega (arith, gain_most n w l m)

-- What a norm finder shows of its norms. It is a certificate: it says that they are the fewest reads, however they were found.
pub record Found (c : Card) (w : ℕ → ℕ) : Type 0 where
  pub reach : Reaches c
  pub kinds : (l : Line) → On c l → l.kind < c.kinds
  pub positive : (k : ℕ) → Reached c k → 0 < w k
  pub out : (k : ℕ) → 0 < w k → Reached c k
  pub settled : (l : Line) → OnReached c l → w l.kind ≤ suc (weigh c.kinds w l.left)
  pub attained : (k : ℕ) → Reached c k → (l : Line) × OnReached c l × (l.kind ≡ k) × (w k ≡ suc (weigh c.kinds w l.left))

module _ (c : Card) (w : ℕ → ℕ) (F : Found c w) where
  pub under : (k : ℕ) → Reached c k → k < c.kinds
  under k v = F.reach.under k v

  -- A live kind, as the theory has it.
  pub live : (k : ℕ) → Reached c k → (k < c.kinds) × (0 < w k)
  live k v = (under k v, F.positive k v)

  pub left_reached : (l : Line) → OnReached c l → (k : ℕ) → 0 < l.left k → Reached c k
  left_reached l o k h = leads l o.0 o.1 h

abbrev pub normed : (c : Card) (w e : ℕ → ℕ) → Found c w → Normed
normed c w e F = record {
  n = c.kinds;
  w = w;
  e = e;
  g = gain_of c.kinds w (reached_lines c);
  on = OnReached c;
  live = λ l o. live c w F l.kind o.1;
  slow = F.settled;
  gain = λ l o. gain_most c.kinds w l ((F.reach.lines_iff l).1 o);
  fast = λ k h q. F.attained k (F.out k q);
  tidy = λ l o k h. live c w F k (left_reached c w F l o k h);
}
