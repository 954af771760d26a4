use Rattle.std.proofs.Common.{rules}
use Rattle.claimed_calls.proofs.Posting.{opens, sits, splits}
use Rattle.claimed_calls.proofs.post.Post.new.Goals as goal

pub vacant-requires : goal.vacant-requires
vacant-requires g c = opens g.J.Job.asks g.J.Job.does

pub load-requires : goal.load-requires
load-requires g c = (search rules, search rules, sits g.J.Job.asks g.J.Job.does _ _ _ (search rules))

pub split_seat-mate-requires : goal.split_seat-mate-requires
split_seat-mate-requires g c = (search rules, search rules, splits g.J.Job.asks g.J.Job.does _ _ (search rules))
