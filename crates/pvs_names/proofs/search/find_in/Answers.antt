use Rattle.pvs_names.proofs.SearchLaws.{found_resolves}
use Rattle.pvs_names.proofs.search.find_in.Goals as goal

pub returns : goal.returns
returns c =
    found_resolves c.args.index.now (record { section = c.args.section; kind = c.args.kind; name = c.args.name }) c.get-found.result c.answer_of.result c.get-found.ensures c.answer_of.ensures
