use Rattle.std.proofs.Common.{◌≡◌, inr, refl}
use Rattle.base_cmd.specs.Answer.{Answer}
use Rattle.base_cmd.specs.Files.{Ends}
use Rattle.base_cmd.proofs.Chain.{no_net_told, rows_end}
use Rattle.base_cmd.proofs.Ending.{ends_as}
use Rattle.sndlib_grammar.specs.Rows.{NetRows}
use Rattle.solve_cmd.specs.Print.{printed}
use Rattle.solve_cmd.proofs.printing.print.Goals as goal

pub returns : goal.returns
returns g c =
    no_net_told c.args.name.now (λ rows. Ends (λ given. given ≡ printed rows)) _ _ _ _ _ c.in-Err.outcome c.in-Err.ensures.rows c.tell.ensures

pub returns-in-Ok : goal.returns-in-Ok
returns-in-Ok g c =
    let raw = c.in-Ok.raw in
    let writes = ends_as _ _ _ c.print_net.result 0 c.nothing.result (printed raw) refl c.nothing.ensures c.end_of.ensures c.print_net.ensures in
    rows_end c.args.name.now (λ (rows : NetRows) (given : Answer). given ≡ printed rows) _ _ _ _ _ raw c.in-Ok.ensures.rows.0 c.in-Ok.ensures.rows.1 (printed raw, inr refl, writes)
