-- Laws of the numbers of rounds that are tried one after another.
use mathlib.Core.Bool.{Bool, true, false}
use mathlib.Core.List.{List}
use mathlib.Core.Path.{◌≡◌, refl, sym, ap, ◌∙◌}
use Prim.Native.Nat.{ℕ, suc, ◌+◌, ◌-◌, ◌≤◌, ◌<◌}
use native.Mathlib.Omega.{arith}
use borrow.Author.Tests.{lt-ltb, le-ltb, le-leb, lt-leb}
use Rattle.model.specs.Field.{Field}
use Rattle.model.specs.Card.{Card}
use Rattle.model.specs.Sense.{Sense}
use Rattle.model.specs.Sheet.{kind_count, field_count, card_of, field_of}
use Rattle.theory.specs.Counted.{Counted, cut}
use Rattle.test_player.specs.Played.{most_kinds_played, most_rounds_played, shares_total, examine_in, next, tried, from_start, parting_of}
use Rattle.test_player.specs.declared.game.Tried.{Tried}
use Rattle.test_player.specs.declared.game.Tried.TheVariants.{Parted, Held, OutOfBounds}

module _ (m : Sense) (c : Card) (a b : Field) (v r : ℕ) where
  -- No number of rounds is left, the next lies past the bound, or it is tried.
  pub tried_none : (many : ℕ) → many ≡ 0 → tried m c a b v r many ≡ Held r
  unfolding tried
  tried_none many e = rw e refl

  pub tried_bound : (many : ℕ) → most_rounds_played ≤ r → tried m c a b v r (suc many) ≡ OutOfBounds r
  unfolding tried
  tried_bound many l = rw (le-ltb r most_rounds_played l, tried) refl

  pub tried_one : (many : ℕ) → r < most_rounds_played → tried m c a b v r (suc many) ≡ next r (cut v (examine_in m c (r + 1) a b)) (λ left. tried m c a b left (r + 1) many)
  unfolding tried
  tried_one many l = rw (lt-ltb r most_rounds_played l, tried) refl

  -- None is tried yet.
  pub rounds_start : (limit : ℕ) → tried m c a b v r (limit - 0) ≡ tried m c a b v r limit
  rounds_start limit = let z : limit - 0 ≡ limit = omega arith in ap (tried m c a b v r) z

  -- The numbers of rounds after r up to a limit; what all of them come to is `whole`.
  module _ {limit : ℕ} {whole : Tried} (from : tried m c a b v r (limit - r) ≡ whole) where
    pub rounds_end : r ≡ limit → Held limit ≡ whole
    rounds_end e = ap Held (sym e) ∙ sym (tried_none (limit - r) (omega arith)) ∙ from

    pub rounds_bound : r < limit → most_rounds_played ≤ r → OutOfBounds r ≡ whole
    rounds_bound h l = let e : limit - r ≡ suc (limit - (r + 1)) = omega arith in sym (tried_bound (limit - (r + 1)) l) ∙ ap (tried m c a b v r) (sym e) ∙ from

    pub rounds_next : r < limit → r < most_rounds_played → {found known : Counted} → found ≡ cut v (examine_in m c (r + 1) a b) → found ≡ known
        → next r known (λ left. tried m c a b left (r + 1) (limit - (r + 1))) ≡ whole
    rounds_next h l d k =
        let e : limit - r ≡ suc (limit - (r + 1)) = omega arith in
        ap (λ (p : Counted). next r p (λ left. tried m c a b left (r + 1) (limit - (r + 1)))) (sym k ∙ d)
        ∙ sym (tried_one (limit - (r + 1)) l)
        ∙ ap (tried m c a b v r) (sym e)
        ∙ from

-- Two fields of a sheet: out of bounds, parted at the start, or tried.
module _ (m : Sense) (s : List ℕ) (limit first second budget : ℕ) where
  pub kinds_bound : most_kinds_played < kind_count s → OutOfBounds 0 ≡ parting_of m s limit first second budget
  unfolding parting_of
  kinds_bound h = rw (lt-leb (kind_count s) most_kinds_played h, parting_of) refl

  module _ (few : kind_count s ≤ most_kinds_played) where
    pub first_bound : field_count s ≤ first → OutOfBounds 0 ≡ parting_of m s limit first second budget
    unfolding parting_of
    first_bound h = rw (le-leb (kind_count s) most_kinds_played few, le-ltb first (field_count s) h, parting_of) refl

    module _ (one : first < field_count s) where
      pub second_bound : field_count s ≤ second → OutOfBounds 0 ≡ parting_of m s limit first second budget
      unfolding parting_of
      second_bound h = rw (le-leb (kind_count s) most_kinds_played few, lt-ltb first (field_count s) one, le-ltb second (field_count s) h, parting_of) refl

      module _ (two : second < field_count s) where
        -- Both fields are read, and looked at as at the start.
        pub fields_started : from_start (shares_total m (card_of s) (field_of s first) (field_of s second)) (tried m (card_of s) (field_of s first) (field_of s second) budget 0 limit) ≡ parting_of m s limit first second budget
        unfolding parting_of
        fields_started = sym (rw (le-leb (kind_count s) most_kinds_played few, lt-ltb first (field_count s) one, lt-ltb second (field_count s) two, parting_of) refl)

        module _ {h : Bool} (e : h ≡ shares_total m (card_of s) (field_of s first) (field_of s second)) where
          pub fields_parted : h ≡ false → Parted 0 ≡ parting_of m s limit first second budget
          fields_parted d = ap (λ (b : Bool). from_start b (tried m (card_of s) (field_of s first) (field_of s second) budget 0 limit)) (sym d ∙ e) ∙ fields_started

          pub fields_tried : h ≡ true → tried m (card_of s) (field_of s first) (field_of s second) budget 0 limit ≡ parting_of m s limit first second budget
          fields_tried d = ap (λ (b : Bool). from_start b (tried m (card_of s) (field_of s first) (field_of s second) budget 0 limit)) (sym d ∙ e) ∙ fields_started
