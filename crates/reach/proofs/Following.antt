-- The loop over the kinds that are marked: when each is done, the marks are those of the reached kinds.
use mathlib.Core.Bool.{Bool, true, false}
use mathlib.Core.List.{List}
use mathlib.Core.Logic.{⊎_elim}
use mathlib.Core.Path.{◌≡◌, refl, sym, ◌∙◌}
use Prim.Native.Nat.{ℕ}
use native.Mathlib.Decide.{ℕ_discrete}
use native.Mathlib.Omega.{arith}
use lib.ListN.{length, get_or, set, replicate, length-set, length-replicate}
use lib.Seq.{get_or-set_other}
use Rattle.model.specs.Card.{Reached, leads, reached}
use Rattle.model.specs.Limits.{most_kinds}
use Rattle.model.specs.Sheet.{line_of, card_of}
use Rattle.theory.proofs.Done.{none_done}
use Rattle.theory.proofs.Sheets.{field_kinds, sheet_reached_only}
use Rattle.sheet.specs.declared.reader.Card.{Card}
use Rattle.sheet.specs.Reader.{Reads}
use Rattle.sheet.proofs.Laws.{lines_are, line_on}
use Rattle.reach.specs.Marks.{Marked, Adds, AllDone}
use Rattle.reach.specs.Kinds.{HeldBy, LeftBy}

-- The kinds that fields hold are marked, and those that lines of the kinds done leave; all that are marked are reached.
pub record Followed (s : List ℕ) (marks done : List Bool) : Type 0 where
  pub marks_long : length marks ≡ most_kinds
  pub done_long : length done ≡ most_kinds
  pub holds : (k : ℕ) → HeldBy s k → Marked marks k
  pub leaves : (kind k : ℕ) → Marked done kind → LeftBy s kind k → Marked marks k
  pub sound : (k : ℕ) → Marked marks k → Reached (card_of s) k

-- At the start no kind is marked and none is done.
none_marked : (k : ℕ) → ¬ Marked (replicate most_kinds false) k
none_marked k e = let d = none_done most_kinds k in let z : ◌≡◌ {A = ℕ} 0 1 = cc in omega arith

module _ {s : List ℕ} {c : Card} (R : Reads s c) where
  -- The kinds that fields hold are marked.
  pub followed_none : {marks : List Bool} → length marks ≡ most_kinds → Adds (HeldBy s) (replicate most_kinds false) marks → Followed s marks (replicate most_kinds false)
  followed_none l a =
      record {
        marks_long = l;
        done_long = length-replicate most_kinds false;
        holds = a.added;
        leaves = λ kind k d. absurd (none_marked kind d);
        sound = λ k m. ⊎_elim (λ o. absurd (none_marked k o)) (λ w. field_kinds s R.passed w.0 k w.2) (a.only k m);
      }

  module _ {marks done : List Bool} (h : Followed s marks done) where
    -- One more kind is done.
    pub followed_more : {kind : ℕ} {new : List Bool} → Marked marks kind → length new ≡ length marks → Adds (LeftBy s kind) marks new
        → Followed s new (set done kind true)
    followed_more {kind} {new} m l a =
        record {
          marks_long = l ∙ h.marks_long;
          done_long = length-set done kind true ∙ h.done_long;
          holds = λ k w. a.kept k (h.holds k w);
          leaves = λ j k d w. one j k d w (ℕ_discrete j kind);
          sound = λ k n. ⊎_elim (h.sound k) (λ w. step k w) (a.only k n);
        }
      where
        one : (j k : ℕ) → Marked (set done kind true) j → LeftBy s j k → Dec (j ≡ kind) → Marked new k
        one j k d w (yes e) = a.added k (rw e at w)
        one j k d w (no n) = a.kept k (h.leaves j k (sym (get_or-set_other done kind j true false n) ∙ d) w)

        step : (k : ℕ) → LeftBy s kind k → Reached (card_of s) k
        step k w = leads (line_of s w.0) (line_on R w.0 (omega (arith, w.1, lines_are R))) (rw w.2.0 (h.sound kind m)) w.2.1

    -- Where every marked kind is done, the marks are those of the reached kinds.
    pub followed_all : AllDone marks done → (k : ℕ) → get_or marks k false ≡ reached (card_of s) k
    followed_all all =
        sheet_reached_only s (λ k. get_or marks k false)
        (λ i b k p. h.holds k (i, b, p))
        (λ j b m k p. h.leaves (line_of s j).kind k (all (line_of s j).kind m) (j, b, (refl, p)))
        h.sound
