use Rattle.sndlib_grammar.proofs.ReadBack.{reads_back}
use Rattle.net_gen.specs.Generated.{generated_rows}
use Rattle.net_gen.proofs.Printing.{rows_printable}
use Rattle.net_gen.proofs.laws.generated_text_reads_back.Goals as goal

pub returns : goal.returns
returns c = λ seed nodes links demands are. reads_back (generated_rows seed nodes links demands) (rows_printable seed nodes links demands are)
