-- `point_record::band` meets its contract: a law of `proofs/Bands.antt`.
use Rattle.point_record.proofs.Bands.{band_made}
use Rattle.point_record.proofs.band.Goals as goal

pub returns : goal.returns
returns c =
    let s = c in
    band_made _ _ _ _ _ s.product-first.ensures.value s.product-second.ensures.value s.product-third.ensures.value
    c.product-fourth.ensures.value _ c.of.ensures
