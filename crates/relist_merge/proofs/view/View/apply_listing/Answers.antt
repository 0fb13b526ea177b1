use Rattle.std.proofs.Common.{◌∙◌, ap, map, arith}
use Rattle.relist_merge.specs.Given.{pair_of}
use Rattle.relist_merge.specs.Sight.{viewed}
use Rattle.relist_merge.specs.View.{View, put_of}
use Rattle.relist_merge.specs.Viewed.{Viewed}
use Rattle.relist_merge.specs.declared.phase.Phase.TheVariants.{Held}
use Rattle.relist_merge.proofs.Viewing.{same-length, edits-shown, edits-source, edits-room}
use Rattle.relist_merge.proofs.view.View.apply_listing.Goals as goal

pub returns-clause-view : goal.returns-clause-view
returns-clause-view c =
    ap (λ (v : Viewed). let w : View = record { entries = v.shown.entries; cursor = c.args.listing.at; phase = Held } in w) c.put_all.ensures
    ∙ ap (λ (v : View). let w : View = record { entries = v.entries; cursor = c.args.listing.at; phase = Held } in w) (edits-shown (map put_of (map pair_of c.args.listing.pairs)) (viewed c.args.self.now))

pub returns-clause-source : goal.returns-clause-source
returns-clause-source c = ap (λ (v : Viewed). v.source) c.put_all.ensures ∙ edits-source (map put_of (map pair_of c.args.listing.pairs)) (viewed c.args.self.now)

pub returns-clause-room : goal.returns-clause-room
returns-clause-room c = omega (arith, ap (λ (v : Viewed). v.room) c.put_all.ensures, edits-room (map put_of (map pair_of c.args.listing.pairs)) (viewed c.args.self.now), same-length put_of (map pair_of c.args.listing.pairs), same-length pair_of c.args.listing.pairs)
