use Rattle.pvs_parser.proofs.grammar.prefix_begins.Goals as goal

pub returns : goal.returns
returns c = λ text us vs whole. (vs, whole)
