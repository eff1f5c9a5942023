use Rattle.std.proofs.Common.{◌≡◌, List, ℕ, rules}
use Rattle.std.specs.Prelude.{Ok}
use Rattle.hex.specs.Hex.{decode_sized}
use Rattle.ra_host_text.specs.HostText.{IsNonce, nonce_text}
use Rattle.ra_host_text.proofs.Nonces.{another, none_read, some_read, undecoded}
use Rattle.ra_host_text.proofs.nonce.nonce_of.Goals as goal

pub returns-then-is_err-clause-value : goal.returns-then-is_err-clause-value
returns-then-is_err-clause-value c =
    let none : (bytes : List ℕ) → decode_sized c.args.digits.now 16 ≡ Ok bytes → ⊥ = search rules in
    undecoded c.args.digits.now none

pub returns-then-is_err-clause-read : goal.returns-then-is_err-clause-read
returns-then-is_err-clause-read c =
    let none : (bytes : List ℕ) → decode_sized c.args.digits.now 16 ≡ Ok bytes → ⊥ = search rules in
    none_read c.args.digits.now (undecoded c.args.digits.now none)

pub returns-then-eq-clause-read : goal.returns-then-eq-clause-read
returns-then-eq-clause-read c =
    let small : IsNonce c.from_be_bytes-nonce.result = search rules in
    let same : nonce_text c.from_be_bytes-nonce.result ≡ c.args.digits.now = search rules in
    some_read c.args.digits.now c.from_be_bytes-nonce.result small same

pub returns-else-eq-clause-value : goal.returns-else-eq-clause-value
returns-else-eq-clause-value c =
    let decoded : decode_sized c.args.digits.now 16 ≡ Ok c.decode_to_slice.new.out = search rules in
    let other : nonce_text c.from_be_bytes-nonce.result ≡ c.args.digits.now → ⊥ = search rules in
    another c.args.digits.now c.decode_to_slice.new.out c.from_be_bytes-nonce.result decoded c.from_be_bytes-nonce.ensures other

pub returns-else-eq-clause-read : goal.returns-else-eq-clause-read
returns-else-eq-clause-read c =
    let decoded : decode_sized c.args.digits.now 16 ≡ Ok c.decode_to_slice.new.out = search rules in
    let other : nonce_text c.from_be_bytes-nonce.result ≡ c.args.digits.now → ⊥ = search rules in
    none_read c.args.digits.now
    (another c.args.digits.now c.decode_to_slice.new.out c.from_be_bytes-nonce.result decoded c.from_be_bytes-nonce.ensures other)
