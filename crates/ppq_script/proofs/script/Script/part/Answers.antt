use Rattle.std.proofs.Common.{◌+◌, List, drop, refl, ap, ◌∙◌}
use Rattle.ppq_script.specs.declared.numbered.Numbered.{Numbered}
use Rattle.ppq_script.specs.declared.session.Session.TheVariants.{InBulk, InLimit}
use Rattle.ppq_script.specs.Reading.{Reading}
use Rattle.ppq_script.specs.Sessions.{turn_of}
use Rattle.ppq_script.specs.Words.{words}
use Rattle.ppq_script.proofs.Parts.{session-open, one-at, bulk-at, limit-at, part-within}
use Rattle.ppq_script.specs.declared.part.Part.TheVariants as part
use Rattle.ppq_script.proofs.script.Script.part.Goals as goal

pub session_lines-requires : goal.session_lines-requires
session_lines-requires g c =
    let w = words g.R.PartialEq g.R.PartialOrd g.R.Ord g.R.Record g.R.Fields in
    let script = c.args.self.now in
    let behind = c.split_at.result.1.now in
    let same = c.split_at.ensures.back ∙ ap (λ (xs : List (Numbered _)). drop (c.args.place + 1) xs) (c.deref.ensures.value ∙ ap (λ (r : Reading _). r.commands) c.self.view_is) in
    (script.workers, (InBulk, session-open w script c.args.place c.requires.place c.requires.outside c.at.result c.at.ensures.command InBulk behind refl (ap turn_of c.in-BulkBegin.is) same))

pub session_lines-requires-in-LimitBegin : goal.session_lines-requires-in-LimitBegin
session_lines-requires-in-LimitBegin g c =
    let w = words g.R.PartialEq g.R.PartialOrd g.R.Ord g.R.Record g.R.Fields in
    let script = c.args.self.now in
    let behind = c.split_at.result.1.now in
    let session = InLimit c.in-LimitBegin.limit in
    let same = c.split_at.ensures.back ∙ ap (λ (xs : List (Numbered _)). drop (c.args.place + 1) xs) (c.deref.ensures.value ∙ ap (λ (r : Reading _). r.commands) c.self.view_is) in
    (script.workers, (session, session-open w script c.args.place c.requires.place c.requires.outside c.at.result c.at.ensures.command session behind refl (ap turn_of c.in-LimitBegin.is) same))

pub returns-in-BulkBegin-clause-part : goal.returns-in-BulkBegin-clause-part
returns-in-BulkBegin-clause-part g c =
    let w = words g.R.PartialEq g.R.PartialOrd g.R.Ord g.R.Record g.R.Fields in
    let script = c.args.self.now in
    let behind = c.split_at.result.1.now in
    let same = c.split_at.ensures.back ∙ ap (λ (xs : List (Numbered _)). drop (c.args.place + 1) xs) (c.deref.ensures.value ∙ ap (λ (r : Reading _). r.commands) c.self.view_is) in
    let opened = session-open w script c.args.place c.requires.place c.requires.outside c.at.result c.at.ensures.command InBulk behind refl (ap turn_of c.in-BulkBegin.is) same in
    bulk-at w script c.args.place c.requires.place c.requires.outside c.at.result c.at.ensures.command behind c.session_lines.result c.in-BulkBegin.is same (c.session_lines.ensures script.workers InBulk opened)

pub returns-in-LimitBegin-clause-part : goal.returns-in-LimitBegin-clause-part
returns-in-LimitBegin-clause-part g c =
    let w = words g.R.PartialEq g.R.PartialOrd g.R.Ord g.R.Record g.R.Fields in
    let script = c.args.self.now in
    let behind = c.split_at.result.1.now in
    let limit = c.in-LimitBegin.limit in
    let same = c.split_at.ensures.back ∙ ap (λ (xs : List (Numbered _)). drop (c.args.place + 1) xs) (c.deref.ensures.value ∙ ap (λ (r : Reading _). r.commands) c.self.view_is) in
    let opened = session-open w script c.args.place c.requires.place c.requires.outside c.at.result c.at.ensures.command (InLimit limit) behind refl (ap turn_of c.in-LimitBegin.is) same in
    limit-at w script c.args.place c.requires.place c.requires.outside c.at.result c.at.ensures.command limit behind c.session_lines-in-LimitBegin.result c.in-LimitBegin.is same (c.session_lines-in-LimitBegin.ensures script.workers (InLimit limit) opened)

pub returns-in_default-clause-part : goal.returns-in_default-clause-part
returns-in_default-clause-part g c = one-at (words g.R.PartialEq g.R.PartialOrd g.R.Ord g.R.Record g.R.Fields) c.args.self.now c.args.place c.requires.place c.requires.outside c.at.result c.at.ensures.command c.in_default.not-BulkBegin c.in_default.not-LimitBegin

pub returns-in-BulkBegin-clause-within : goal.returns-in-BulkBegin-clause-within
returns-in-BulkBegin-clause-within g c =
    let w = words g.R.PartialEq g.R.PartialOrd g.R.Ord g.R.Record g.R.Fields in
    let script = c.args.self.now in
    let behind = c.split_at.result.1.now in
    let same = c.split_at.ensures.back ∙ ap (λ (xs : List (Numbered _)). drop (c.args.place + 1) xs) (c.deref.ensures.value ∙ ap (λ (r : Reading _). r.commands) c.self.view_is) in
    let opened = session-open w script c.args.place c.requires.place c.requires.outside c.at.result c.at.ensures.command InBulk behind refl (ap turn_of c.in-BulkBegin.is) same in
    part-within w script c.args.place (part.Bulk c.session_lines.result) c.requires.place (bulk-at w script c.args.place c.requires.place c.requires.outside c.at.result c.at.ensures.command behind c.session_lines.result c.in-BulkBegin.is same (c.session_lines.ensures script.workers InBulk opened))

pub returns-in-LimitBegin-clause-within : goal.returns-in-LimitBegin-clause-within
returns-in-LimitBegin-clause-within g c =
    let w = words g.R.PartialEq g.R.PartialOrd g.R.Ord g.R.Record g.R.Fields in
    let script = c.args.self.now in
    let behind = c.split_at.result.1.now in
    let limit = c.in-LimitBegin.limit in
    let same = c.split_at.ensures.back ∙ ap (λ (xs : List (Numbered _)). drop (c.args.place + 1) xs) (c.deref.ensures.value ∙ ap (λ (r : Reading _). r.commands) c.self.view_is) in
    let opened = session-open w script c.args.place c.requires.place c.requires.outside c.at.result c.at.ensures.command (InLimit limit) behind refl (ap turn_of c.in-LimitBegin.is) same in
    part-within w script c.args.place (part.Limit limit c.session_lines-in-LimitBegin.result) c.requires.place (limit-at w script c.args.place c.requires.place c.requires.outside c.at.result c.at.ensures.command limit behind c.session_lines-in-LimitBegin.result c.in-LimitBegin.is same (c.session_lines-in-LimitBegin.ensures script.workers (InLimit limit) opened))
