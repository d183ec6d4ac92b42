-- What is printed: the text of a reply, and that of the call of what was read.
use Rattle.std.proofs.Common.{Bool, true, false, ◌≡◌, sym, ap, subst, ◌∙◌, ℕ, ◌≤◌, ◌<◌, List, None, Some, IfSome, length, take, drop}
use Rattle.std.specs.declared.option.Option.{Option}
use Rattle.std.specs.Bool.{OnTrue}
use Rattle.std.specs.Io.KnownBytes.{Consumes, IsAtEnd, Appends}
use lib.Seq.{take_at}
use Rattle.model.specs.Answer.{written}
use Rattle.replies.specs.Told.{Told, Tells}
use Rattle.replies.specs.declared.reply.Reply.{Reply}
use Rattle.console.proofs.Inputs.{read_front}

-- The text of a reply is the front of its buffer.
reply_front : {t : Told} {before after : List ℕ} {r : Reply} → Tells t before after r → take r.length after ≡ t.text
unfolding written
reply_front {t} {before} {after} {r} tells = ap (take r.length) tells.text_is ∙ take_at t.text (drop (length t.text) before) r.length (sym tells.length_is)

-- Where the front of the buffer that a reply's length names was written to an output, the reply's text was.
pub reply_printed : {t : Told} {before after : List ℕ} {r : Reply} (done : Bool) (from to : Option (List ℕ)) → Tells t before after r → OnTrue done (Appends from to (take r.length after)) → OnTrue done (Appends from to t.text)
reply_printed done from to tells wrote = subst (λ l. OnTrue done (Appends from to l)) (reply_front tells) wrote

-- Where a text of the bytes that were read was written to an output, so was that of the input's first bytes.
pub read_text : (done : Bool) (text : List ℕ → List ℕ) (limit : ℕ) (a b : Option (List ℕ)) (xs : List ℕ) (n : ℕ) (from to : Option (List ℕ)) → Consumes a b (take n xs) → n ≤ length xs
    → length xs ≡ limit → (n < limit → IsAtEnd b) → OnTrue done (Appends from to (text (take n xs))) → OnTrue done (IfSome a (λ s. Appends from to (text (take limit s))))
read_text false text limit a b xs n from to read within long ended wrote = tt
read_text true text limit None b xs n from to read within long ended wrote = tt
read_text true text limit (Some s) None xs n from to read within long ended wrote = absurd read
read_text true text limit (Some s) (Some rest) xs n from to read within long ended wrote =
    subst (λ l. Appends from to (text l)) (read_front limit n s rest xs read within long ended) wrote
