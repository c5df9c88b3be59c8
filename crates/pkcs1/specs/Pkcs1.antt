-- Document 01, "Padding and delivery": RSA padding of RFC 8017 (EMSA-PKCS1-v1_5 and RSAES-PKCS1-v1_5), for RSA 2048.
use Rattle.std.specs.Prelude.{ℕ, suc, ◌+◌, ◌-◌, Bool, cond, ◌&&◌, ◌||◌, [], ◌∷◌, ◌++◌, length, drop, replicate, eqb, leb, ltb}
use Rattle.octets.specs.Octets.{Bytes, byte_at}

-- A padded block: 00 01, 253 − n bytes FF, 00, the n data bytes.
unfoldable pub padded : Bytes → Bytes
padded d = 0x00 ∷ 0x01 ∷ (replicate (253 - length d) 0xFF ++ 0x00 ∷ d)

-- Padding refuses more than 245 data bytes and a buffer under 256 bytes.
unfoldable pub cannot_pad : Bytes → Bytes → Bool
cannot_pad d buffer = ltb 245 (length d) || ltb (length buffer) 256

-- Padding: the answer and the buffer afterwards. It writes the first 256 bytes and answers 256, or answers 0 with nothing written.
unfoldable pub pad : Bytes → Bytes → ℕ × Bytes
pad d buffer = cond (cannot_pad d buffer) (0, buffer) (256, padded d ++ drop 256 buffer)

-- How many bytes stand before the first zero.
unfoldable pub before_zero : Bytes → ℕ
before_zero [] = 0
before_zero (x ∷ xs) = cond (eqb x 0) 0 (suc (before_zero xs))

-- A block that stripping takes: 256 bytes, 00 02, at least 8 non-zero bytes, 00.
unfoldable pub enciphered : Bytes → Bool
enciphered b =
    eqb (length b) 256 && eqb (byte_at b 0) 0x00 && eqb (byte_at b 1) 0x02 && leb 8 (before_zero (drop 2 b)) && ltb (before_zero (drop 2 b)) 254

-- Stripping: where the message starts, 11 to 256, else 0.
unfoldable pub strip : Bytes → ℕ
strip b = cond (enciphered b) (before_zero (drop 2 b) + 3) 0
