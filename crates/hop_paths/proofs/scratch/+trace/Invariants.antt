use Rattle.hop_paths.proofs.scratch.+trace.Given as goal

abbrev pub decreases-trace : goal.decreases-trace
decreases-trace l = l.layer
