use Rattle.std.proofs.Common.{◌≡◌, None, true, false, get_or, ap, vec_items, rules}
use Rattle.std.proofs.lemmas.List.{get_or_read}
use Rattle.keytables.specs.Chains.{link_of}
use Rattle.keytables.specs.Keys.{same_key}
use Rattle.keytables.specs.Rows.{bucket, no_row, has_key, row_of}
use Rattle.keytables.proofs.Chains.{way_start, way_more, way_found, way_over}
use Rattle.keytables.proofs.Rows.{bucket_own}
use Rattle.keytables.proofs.Same.{derived_same}
use Rattle.keytables.proofs.buckets.Buckets.row.Goals as goal

pub loop-link-init : goal.loop-link-init
loop-link-init c =
    let t = c.args.self.now in
    let k = c.args.key in
    let x : c.index.result.now ≡ get_or (vec_items t.heads) (bucket k) None = search (rules, get_or_read) in
    rw (c.place-link.ensures, x) (way_start t.sound.chained (bucket k) (has_key (vec_items t.rows) k) (bucket_own (vec_items t.rows) k))

pub returns-then-eq-clause-row : goal.returns-then-eq-clause-row
unfolding row_of
returns-then-eq-clause-row c =
    let rows = vec_items c.args.self.now.rows in
    let i = c.from-i.result in
    let y : c.index-row.result.now ≡ get_or rows i no_row = search (rules, get_or_read) in
    let h : same_key (get_or rows i no_row).key c.args.key ≡ true = cc (derived_same c.index-row.result.now.key c.args.key, c.if-eq.ensures) in
    way_found c.loop-link.invariant i (search rules) h

pub loop-link-preserved : goal.loop-link-preserved
loop-link-preserved c =
    let rows = vec_items c.args.self.now.rows in
    let k = c.args.key in
    let i = c.from-i.result in
    let y : c.index-row.result.now ≡ get_or rows i no_row = search (rules, get_or_read) in
    let h : same_key (get_or rows i no_row).key c.args.key ≡ false = cc (derived_same c.index-row.result.now.key c.args.key, c.if-eq.ensures) in
    rw (c.place-link-in-Some.ensures, y) (way_more (c.args.self.now.sound).chained (bucket k) (has_key rows k) (bucket_own rows k) (link_of c.loop-link.link) i c.loop-link.invariant (search rules) h)

pub returns-clause-row : goal.returns-clause-row
unfolding row_of
returns-clause-row c = way_over c.loop-link.invariant (ap link_of c.in_default.is)
