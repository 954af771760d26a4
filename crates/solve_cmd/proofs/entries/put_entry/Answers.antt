use Rattle.std.proofs.Common.{map}
use Rattle.solve_cmd.proofs.Steps.{entry_first_stops, entry_second_stops, entry_put}
use Rattle.solve_cmd.proofs.entries.put_entry.Goals as goal

pub returns-in-Err : goal.returns-in-Err
returns-in-Err g c = entry_first_stops _ _ _ _ c.in-Err.fault _ (map (λ w. w.now) c.args.middle.now) (map (λ w. w.now) c.args.back.now) c.in-Err.ensures

pub returns-in-Err-put_words : goal.returns-in-Err-put_words
returns-in-Err-put_words g c = entry_second_stops _ _ _ _ _ _ c.in-Err-put_words.fault _ _ (map (λ w. w.now) c.args.back.now) c.in-Ok.ensures c.in-Err-put_words.ensures

pub returns : goal.returns
returns g c = entry_put _ _ _ _ _ _ _ _ c.put_last_words.result _ _ (map (λ w. w.now) c.args.back.now) c.in-Ok.ensures c.in-Ok-put_words.ensures c.put_last_words.ensures
