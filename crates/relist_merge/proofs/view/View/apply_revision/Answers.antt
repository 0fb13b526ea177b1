use Rattle.std.proofs.Common.{◌∙◌, ap, map, arith}
use Rattle.relist_merge.specs.Given.{edit_in}
use Rattle.relist_merge.specs.Sight.{viewed}
use Rattle.relist_merge.specs.View.{with_cursor}
use Rattle.relist_merge.specs.Viewed.{Viewed}
use Rattle.relist_merge.proofs.Viewing.{same-length, edits-shown, edits-source, edits-room}
use Rattle.relist_merge.proofs.view.View.apply_revision.Goals as goal

pub returns-clause-view : goal.returns-clause-view
returns-clause-view c = ap (λ (v : Viewed). with_cursor c.args.revision.number v.shown) c.apply_changes.ensures ∙ ap (with_cursor c.args.revision.number) (edits-shown (map edit_in c.args.revision.changes) (viewed c.args.self.now))

pub returns-clause-source : goal.returns-clause-source
returns-clause-source c = ap (λ (v : Viewed). v.source) c.apply_changes.ensures ∙ edits-source (map edit_in c.args.revision.changes) (viewed c.args.self.now)

pub returns-clause-room : goal.returns-clause-room
returns-clause-room c = omega (arith, ap (λ (v : Viewed). v.room) c.apply_changes.ensures, edits-room (map edit_in c.args.revision.changes) (viewed c.args.self.now), same-length edit_in c.args.revision.changes)
