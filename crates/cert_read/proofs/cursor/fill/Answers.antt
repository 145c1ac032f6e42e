use Rattle.base.proofs.Public.{◌≡◌, length, refl, ap, arith, whole}
use Rattle.cert_read.proofs.LineLemmas.{no_newline, nothing_clean, too_long}
use Rattle.cert_read.proofs.cursor.fill.Goals as goal

pub pieces-init : goal.pieces-init
pieces-init g c = record {
  looked = omega arith;
  clean = nothing_clean;
  few = c.requires.few;
  prefix = whole c.args.held.now;
  within = c.requires.place;
  stands = λ told h. h;
  files = λ told. refl;
  current = refl;
  reads = refl;
  writes = refl;
}

pub returns-then-count-gt-MAX_LINE-clause-line : goal.returns-then-count-gt-MAX_LINE-clause-line
returns-then-count-gt-MAX_LINE-clause-line g c = λ told h.
    too_long _ c.before_newline_from-count.result _ c.pieces.held (rw c.bytes.ensures at c.before_newline_from-count.ensures.count) (omega arith) (c.pieces.invariant.stands told h)

pub returns-then-branch-eq0-clause-line : goal.returns-then-branch-eq0-clause-line
returns-then-branch-eq0-clause-line g c = λ told h.
    let size : length c.bytes-in-pieces.result.now ≡ length c.pieces.held = ap length c.bytes-in-pieces.ensures in
    let stands = c.pieces.invariant.stands told h in
    let all = rw (c.pieces.invariant.files told) at (c.in_ok-read_piece.ensures.end told) in
    no_newline _ c.before_newline_from-count.result c.in_ok-read_piece.field-0 _ c.pieces.held c.read_piece.new.held (rw c.bytes.ensures at c.before_newline_from-count.ensures.count) (omega arith) (omega arith) c.in_ok-read_piece.ensures.longer c.if-branch-eq0.true
    c.in_ok-read_piece.ensures.prefix (all stands c.if-branch-eq0.true)
