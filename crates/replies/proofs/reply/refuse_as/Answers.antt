-- The line of the refusal.
use Rattle.replies.proofs.Replies.{tells_refusal}
use Rattle.replies.proofs.reply.refuse_as.Goals as goal

pub returns : goal.returns
returns c =
    tells_refusal c.args.number c.args.place c.put_refused-length.ensures
