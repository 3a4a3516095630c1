-- `worth::Figures::of` meets its contract: the answers of its calls, put together by a law of `proofs/Roles.antt`.
use Rattle.worth.proofs.Roles.{put_made}
use Rattle.worth.proofs.Figures.of.Goals as goal

pub returns : goal.returns
returns c =
    let q = c in
    let a = q.args in
    put_made a.point a.tariffs a.metered _ _ _ _ c.absolute.ensures q.role_of.ensures
    q.classify-shares.ensures q.value-amounts.ensures
