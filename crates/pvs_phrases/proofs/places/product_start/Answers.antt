use Rattle.pvs_phrases.proofs.PlaceLaws.{place_product}
use Rattle.pvs_phrases.proofs.places.product_start.Goals as goal

pub returns : goal.returns
returns c = place_product c.args.pos c.args.text.now c.args.bindings.now c.requires
