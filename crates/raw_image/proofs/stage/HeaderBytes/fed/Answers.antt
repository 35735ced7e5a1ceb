use Rattle.std.proofs.Common.{◌≡◌, ◌∙◌, ◌++◌, ◌-◌, [], ap, sym, List, ℕ, Ok, arith, take, length}
use Rattle.raw_image.proofs.Common.{err_from_is_err_and, bytes_of, Header, header_view, body_bytes}
use Rattle.raw_image.proofs.Bodies.{length_body}
use Rattle.raw_image.proofs.Feeding.{header_wrong, header_right, header_too_long}
use Rattle.raw_image.proofs.stage.HeaderBytes.fed.Goals as goal

pub returns-in_err-shape-clause-fed : goal.returns-in_err-shape-clause-fed
returns-in_err-shape-clause-fed c = λ bytes fed.
    let front = c.args.self.bytes.items in
    let piece = c.args.piece.now in
    let header = c.deref.result.now in
    let missing = 14 - c.len-missing.result in
    let p = err_from_is_err_and c.from_residual-in_err-shape.result c.from_residual-in_err-shape.ensures.1 in
    let filled : header ≡ front ++ take missing piece = c.deref.ensures.value ∙ c.in_ok-extend_from_slice-2.ensures.items ∙ ap (λ (bs : List ℕ). front ++ bs) c.split_at.ensures.front in
    let whole : length header ≡ 14 = omega (arith, c.args.self.short, c.in_ok-extend_from_slice-2.ensures.len, c.args.self.bytes.ok.0) in
    rw (p.1, p.2) (header_wrong bytes front piece header missing c.in_err-shape.field-0.0 fed filled whole c.in_err-shape.ensures)

pub returns-in_err-fed-clause-fed : goal.returns-in_err-fed-clause-fed
returns-in_err-fed-clause-fed c = λ bytes fed.
    let front = c.args.self.bytes.items in
    let piece = c.args.piece.now in
    let header = c.deref.result.now in
    let missing = 14 - c.len-missing.result in
    let p = err_from_is_err_and c.from_residual-in_err-fed.result c.from_residual-in_err-fed.ensures.1 in
    let filled : header ≡ front ++ take missing piece = c.deref.ensures.value ∙ c.in_ok-extend_from_slice-2.ensures.items ∙ ap (λ (bs : List ℕ). front ++ bs) c.split_at.ensures.front in
    let whole : length header ≡ 14 = omega (arith, c.args.self.short, c.in_ok-extend_from_slice-2.ensures.len, c.args.self.bytes.ok.0) in
    let rest = ap (λ (ws : List ℕ). (bytes_of ws ++ []) ++ c.split_at.result.1.now) c.in_ok-words.ensures.items ∙ c.split_at.ensures.back in
    rw (p.1, p.2) (header_too_long bytes front piece header _ missing (header_view c.in_ok-shape.shape) c.in_err-fed.field-0.0 fed filled whole c.in_ok-shape.ensures rest c.in_err-fed.ensures.err)

pub returns-clause-fed : goal.returns-clause-fed
returns-clause-fed c = λ bytes fed.
    let front = c.args.self.bytes.items in
    let piece = c.args.piece.now in
    let header = c.deref.result.now in
    let missing = 14 - c.len-missing.result in
    let body = c.in_ok-fed.field-0 in
    let e = c.in_ok-fed.ensures in
    let filled : header ≡ front ++ take missing piece = c.deref.ensures.value ∙ c.in_ok-extend_from_slice-2.ensures.items ∙ ap (λ (bs : List ℕ). front ++ bs) c.split_at.ensures.front in
    let whole : length header ≡ 14 = omega (arith, c.args.self.short, c.in_ok-extend_from_slice-2.ensures.len, c.args.self.bytes.ok.0) in
    let rest = e.bytes ∙ ap (λ (ws : List ℕ). (bytes_of ws ++ []) ++ c.split_at.result.1.now) c.in_ok-words.ensures.items ∙ c.split_at.ensures.back in
    header_right bytes front piece header (body_bytes body) missing (header_view body.shape) fed filled whole
    (c.in_ok-shape.ensures ∙ ap (λ (h : Header). Ok h) (sym e.shape)) rest (omega (arith, length_body body.words.items body.high, body.within))
