-- `answer`: the reply's text lies in its buffer, and is the text that is printed, however the call ended.
use Rattle.std.proofs.Common.{sym, length-take-le}
use Rattle.replies.proofs.Replies.{tells_within}
use Rattle.query.proofs.Printed.{reply_printed}
use Rattle.query.proofs.answer.Goals as goal

pub slice_bounds-text-end : goal.slice_bounds-text-end
slice_bounds-text-end g c = tells_within c.answer-reply.ensures

pub slice_bounds-print-end-2 : goal.slice_bounds-print-end-2
slice_bounds-print-end-2 g c = sym (length-take-le _ _ (tells_within c.answer-reply.ensures))

pub returns-in-Answered : goal.returns-in-Answered
returns-in-Answered g c =
    reply_printed c.print-printed.result (g.O.Write.contents c.args.output.now) (g.O.Write.contents c.print-printed.new.output) c.answer-reply.ensures c.print-printed.ensures.written

pub returns-then-printed : goal.returns-then-printed
returns-then-printed g c =
    reply_printed c.print-printed.result (g.O.Write.contents c.args.output.now) (g.O.Write.contents c.print-printed.new.output) c.answer-reply.ensures c.print-printed.ensures.written

pub returns-in-NoCall : goal.returns-in-NoCall
returns-in-NoCall g c =
    reply_printed c.print-printed.result (g.O.Write.contents c.args.output.now) (g.O.Write.contents c.print-printed.new.output) c.answer-reply.ensures c.print-printed.ensures.written
